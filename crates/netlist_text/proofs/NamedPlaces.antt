-- Where an element with a name stands among elements of distinct names.
use Rattle.std.proofs.Common.{◌≡◌, ℕ, zero, suc, ◌+◌, ◌<◌, Bool, true, false, List, [], ◌∷◌, ◌++◌, length, map, slice_get, get_or, Some, None, refl, subst, ◌∙◌, ap, arith, length-append, inl, inr}
use Rattle.std.specs.List.{All, position, position_or_len}
use Rattle.std.specs.Str.{bytes_eq}
use Rattle.std.proofs.Math.Seq.{get_or-append_seam}
use Rattle.std.proofs.lemmas.Bool.{lt-ltb, le-ltb, false_from_ne_true}
use Rattle.std.proofs.lemmas.List.Elements.{All-get_or}
use Rattle.std.proofs.lemmas.List.Sums.{position_or_len_is}
use Rattle.std.proofs.lemmas.Option.{slice_get-get_or, slice_get_within, get_or_from_slice_get}
use Rattle.std.proofs.lemmas.Slice.Eq.{bytes_eq-Decides}
use Rattle.environment_sets.specs.Lists.{IsIn, IsRising, AreDistinct}
use Rattle.environment_sets.proofs.Membership.{IsIn-slice_get, map-IsIn}
use Rattle.circuit_model.proofs.Presents.{other_bytes}

same_bytes : (xs ys : List ℕ) → xs ≡ ys → bytes_eq xs ys ≡ true
same_bytes xs ys e = (bytes_eq-Decides xs ys).1 e

module _ {X : Type 0} where
  -- the element after the front
  pub at_seam : (front rest : List X) (x : X) → slice_get (front ++ x ∷ rest) (length front) ≡ Some x
  at_seam [] rest x = refl
  at_seam (y ∷ front) rest x = at_seam front rest x

  pub within_seam : (front rest : List X) (x : X) → length front + 1 + length rest ≡ length (front ++ x ∷ rest)
  within_seam front rest x = omega (arith, length-append front (x ∷ rest))

  -- what holds of each holds of it
  pub All-seam : (P : X → Type 0) (front rest : List X) (x : X) → All P (front ++ x ∷ rest) → P x
  All-seam P front rest x h =
      let e = get_or-append_seam front x rest x in
      let size = within_seam front rest x in
      subst P e (All-get_or P (front ++ x ∷ rest) (length front) x (omega (arith, size)) h)

  pub All-place : (P : X → Type 0) (xs : List X) (i : ℕ) (x : X) → slice_get xs i ≡ Some x → All P xs → P x
  All-place P xs i x e h = subst P (get_or_from_slice_get xs i x x e) (All-get_or P xs i x (slice_get_within xs i x e) h)

  -- an element comes after all in front of it
  pub IsRising-seam : (before : X → X → Type 0) (front rest : List X) (x : X) → IsRising before (front ++ x ∷ rest) → (y : X) → IsIn front y → before y x
  IsRising-seam before [] rest x h y k = absurd k
  IsRising-seam before (z ∷ front) rest x h y (inl e) = let P : X → Type 0 = λ w. before w x in subst P e (h.0 x (there front))
    where
      there : (front : List X) → IsIn (front ++ x ∷ rest) x
      there [] = inl refl
      there (w ∷ front) = inr (there front)
  IsRising-seam before (z ∷ front) rest x h y (inr k) = IsRising-seam before front rest x h.1 y k

  -- it isn't one of those in front of it
  pub new_at_seam : (front rest : List X) (x : X) → AreDistinct (front ++ x ∷ rest) → IsIn front x → ⊥
  new_at_seam front rest x h k = IsRising-seam (λ a b. a ≡ b → ⊥) front rest x h x k refl

  -- no element stands at two places
  apart_places : (xs : List X) (k i : ℕ) (y x : X) → AreDistinct xs → k < i → slice_get xs k ≡ Some y → slice_get xs i ≡ Some x → y ≡ x → ⊥
  apart_places [] k i y x d lt h g e = cc
  apart_places (z ∷ xs) k zero y x d lt h g e = absurd (omega arith)
  apart_places (z ∷ xs) zero (suc i) y x d lt h g e = let same : z ≡ y = cc in d.0 x (IsIn-slice_get xs i x g) (same ∙ e)
  apart_places (z ∷ xs) (suc k) (suc i) y x d lt h g e = apart_places xs k i y x d.1 (omega arith) h g e

module _ {X : Type 0} (name : X → List ℕ) where
  pub slice_get-name : (xs : List X) (i : ℕ) (x : X) → slice_get xs i ≡ Some x → slice_get (map name xs) i ≡ Some (name x)
  slice_get-name [] i x e = cc
  slice_get-name (y ∷ xs) zero x e = let same : y ≡ x = cc in ap (λ z. Some (name z)) same
  slice_get-name (y ∷ xs) (suc i) x e = slice_get-name xs i x e

  -- the element is found where it stands
  pub position_at : (xs : List X) (i : ℕ) (x : X) → AreDistinct (map name xs) → slice_get xs i ≡ Some x → position (λ y. bytes_eq (name y) (name x)) xs ≡ Some i
  position_at xs i x d e =
      let within : i < length xs = slice_get_within xs i x e in
      let p : X → Bool = λ y. bytes_eq (name y) (name x) in
      let before : (k : ℕ) → k < i → p (get_or xs k x) ≡ false = λ k lt.
      let here : slice_get xs k ≡ Some (get_or xs k x) = slice_get-get_or xs k x (omega arith) in
      other_bytes (name (get_or xs k x)) (name x) (apart_places (map name xs) k i (name (get_or xs k x)) (name x) d lt (slice_get-name xs k (get_or xs k x) here) (slice_get-name xs i x e)) in
      let there : i < length xs → p (get_or xs i x) ≡ true = λ _. same_bytes (name (get_or xs i x)) (name x) (ap name (get_or_from_slice_get xs i x x e)) in
      let first : position_or_len p xs ≡ i = position_or_len_is p xs i x (omega arith) before there in
      rw (first, lt-ltb i (length xs) within) refl

  -- a name that none has is not found
  pub position_new : (xs : List X) (n : List ℕ) → (IsIn (map name xs) n → ⊥) → position (λ y. bytes_eq (name y) n) xs ≡ None
  position_new [] n new = refl
  position_new (x ∷ xs) n new =
      let all : List X = x ∷ xs in
      let p : X → Bool = λ y. bytes_eq (name y) n in
      let none : (k : ℕ) → k < length all → p (get_or all k x) ≡ false = λ k lt.
      let here : slice_get all k ≡ Some (get_or all k x) = slice_get-get_or all k x lt in
      other_bytes (name (get_or all k x)) n (λ e. new (let P : List ℕ → Type 0 = IsIn (map name all) in subst P e (map-IsIn name all (get_or all k x) (IsIn-slice_get all k (get_or all k x) here)))) in
      let last : position_or_len p all ≡ length all = position_or_len_is p all (length all) x (omega arith) none (λ lt. absurd (omega (arith, lt))) in
      rw (last, le-ltb (length all) (length all) (omega arith)) refl
