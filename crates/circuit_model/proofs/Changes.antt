-- A list with one element changed, and a list without its last element.
use Rattle.std.proofs.Common.{◌≡◌, ◌≢◌, ℕ, zero, suc, ◌-◌, ◌<◌, ◌≤◌, ◌⊎◌, inl, inr, List, [], ◌∷◌, ◌++◌, length, map, drop, set, get_or, slice_get, Some, refl, sym, ap, subst, ◌∙◌, arith}
use Rattle.std.specs.List.{All}
use Rattle.std.proofs.lemmas.List.{get_or-set_other, length-take, take-map, take-append-drop, drop_at, map-append, append_assoc}
use Rattle.std.proofs.lemmas.List.Elements.{All-cons, All-head, All-tail, All-set, All-take, All-append, All-drop}
use Rattle.environment_sets.specs.Lists.{IsIn, AreDistinct}
use Rattle.environment_sets.proofs.Membership.{IsIn-left, IsIn-right, IsIn-append}
use Rattle.std.proofs.Math.Seq.{take-append_seam}
use Rattle.circuit_model.specs.Present.{change_at, without_last}

module _ {X : Type 0} where
  -- a write of the changed element
  pub set_is_change : (f : X → X) (xs : List X) (place : ℕ) (d : X) → place < length xs → set xs place (f (get_or xs place d)) ≡ change_at place f xs
  set_is_change f [] place d h = absurd (omega arith)
  set_is_change f (x ∷ xs) zero d h = refl
  set_is_change f (x ∷ xs) (suc place) d h = ap (λ ys. x ∷ ys) (set_is_change f xs place d (omega arith))

  -- a change that changes nothing
  pub change_at_nothing : (xs : List X) (place : ℕ) → change_at place (λ x. x) xs ≡ xs
  change_at_nothing [] place = refl
  change_at_nothing (x ∷ xs) zero = refl
  change_at_nothing (x ∷ xs) (suc place) = ap (λ ys. x ∷ ys) (change_at_nothing xs place)

  pub length-change_at : (f : X → X) (xs : List X) (place : ℕ) → length (change_at place f xs) ≡ length xs
  length-change_at f [] place = refl
  length-change_at f (x ∷ xs) zero = refl
  length-change_at f (x ∷ xs) (suc place) = ap suc (length-change_at f xs place)

  -- an element that stands at a place stands there still, or is changed
  pub slice_get-change_at : (f : X → X) (xs : List X) (place k : ℕ) (x : X) → slice_get xs k ≡ Some x → (slice_get (change_at place f xs) k ≡ Some x) ⊎ (slice_get (change_at place f xs) k ≡ Some (f x))
  slice_get-change_at f [] place k x e = inl e
  slice_get-change_at f (y ∷ xs) zero zero x e = inr (let is : y ≡ x = cc in ap (λ z. Some (f z)) is)
  slice_get-change_at f (y ∷ xs) zero (suc k) x e = inl e
  slice_get-change_at f (y ∷ xs) (suc place) zero x e = inl e
  slice_get-change_at f (y ∷ xs) (suc place) (suc k) x e = slice_get-change_at f xs place k x e

  -- the others stay
  pub get_or-change_at_other : (f : X → X) (xs : List X) (place k : ℕ) (d : X) → k ≢ place → place < length xs → get_or (change_at place f xs) k d ≡ get_or xs k d
  get_or-change_at_other f xs place k d apart h = ap (λ ys. get_or ys k d) (sym (set_is_change f xs place d h)) ∙ get_or-set_other xs place k (f (get_or xs place d)) d apart

  pub All-change_at : (P : X → Type 0) (f : X → X) (xs : List X) (place : ℕ) (d : X) → place < length xs → P (f (get_or xs place d)) → All P xs → All P (change_at place f xs)
  All-change_at P f xs place d h p each = subst (All P) (set_is_change f xs place d h) (All-set P xs place (f (get_or xs place d)) p each)

  pub All-change_each : (P : X → Type 0) (f : X → X) → ((x : X) → P x → P (f x)) → (xs : List X) (place : ℕ) → All P xs → All P (change_at place f xs)
  All-change_each P f keeps [] place h = h
  All-change_each P f keeps (x ∷ xs) zero h = All-cons P (f x) xs (keeps x (All-head P x xs h)) (All-tail P x xs h)
  All-change_each P f keeps (x ∷ xs) (suc place) h = All-cons P x (change_at place f xs) (All-head P x xs h) (All-change_each P f keeps xs place (All-tail P x xs h))

  pub length-without_last : (xs : List X) → length (without_last xs) ≤ length xs
  length-without_last xs = omega (arith, length-take (length xs - 1) xs)

  pub All-without_last : (P : X → Type 0) (xs : List X) → All P xs → All P (without_last xs)
  All-without_last P xs h = All-take P (length xs - 1) xs h

module _ {X : Type 0} where
  AreDistinct-right : (xs ys : List X) → AreDistinct (xs ++ ys) → AreDistinct ys
  AreDistinct-right [] ys h = h
  AreDistinct-right (x ∷ xs) ys h = AreDistinct-right xs ys h.1

  IsIn-around : (xs zs ys : List X) (x : X) → IsIn (xs ++ ys) x → IsIn (xs ++ (zs ++ ys)) x
  IsIn-around xs zs ys x h = elim (IsIn-append xs ys x h) as (λ _. IsIn (xs ++ (zs ++ ys)) x) [
    | inl a ↦ IsIn-left xs (zs ++ ys) x a
    | inr b ↦ IsIn-right xs (zs ++ ys) x (IsIn-right zs ys x b)
  ]

  -- without some elements in between
  pub AreDistinct-around : (xs zs ys : List X) → AreDistinct (xs ++ (zs ++ ys)) → AreDistinct (xs ++ ys)
  AreDistinct-around [] zs ys h = AreDistinct-right zs ys h
  AreDistinct-around (x ∷ xs) zs ys h = ((λ y at. h.0 y (IsIn-around xs zs ys y at)), AreDistinct-around xs zs ys h.1)

  pub All-front : (P : X → Type 0) (xs ys : List X) → All P (xs ++ ys) → All P xs
  All-front P xs ys h = subst (All P) (take-append_seam xs ys) (All-take P (length xs) (xs ++ ys) h)

  pub All-back : (P : X → Type 0) (xs ys : List X) → All P (xs ++ ys) → All P ys
  All-back P xs ys h = subst (All P) (drop_at xs ys (length xs) refl) (All-drop P (length xs) (xs ++ ys) h)

  -- the list and its last element
  pub without_last-split : (xs : List X) → without_last xs ++ drop (length xs - 1) xs ≡ xs
  without_last-split xs = take-append-drop (length xs - 1) xs

module _ {X Y : Type 0} where
  -- names, those of the last of the first ones left out
  pub AreDistinct-without_last : (f : X → Y) (xs : List X) (ys : List Y) → AreDistinct (map f xs ++ ys) → AreDistinct (map f (without_last xs) ++ ys)
  AreDistinct-without_last f xs ys h =
      let n : ℕ = length xs - 1 in
      let whole : map f xs ++ ys ≡ map f (without_last xs) ++ (map f (drop n xs) ++ ys) = ap (λ zs. map f zs ++ ys) (sym (without_last-split xs)) ∙ (ap (λ zs. zs ++ ys) (map-append f (without_last xs) (drop n xs)) ∙ append_assoc (map f (without_last xs)) (map f (drop n xs)) ys) in
      AreDistinct-around (map f (without_last xs)) (map f (drop n xs)) ys (subst (λ (zs : List Y). AreDistinct zs) whole h)

  pub All-without_last_of : (P : Y → Type 0) (f : X → Y) (xs : List X) (ys : List Y) → All P (map f xs ++ ys) → All P (map f (without_last xs) ++ ys)
  All-without_last_of P f xs ys h = All-append P (map f (without_last xs)) ys (subst (All P) (take-map f (length xs - 1) xs) (All-take P (length xs - 1) (map f xs) (All-front P (map f xs) ys h))) (All-back P (map f xs) ys h)

  -- what the change does not touch
  pub map-change_at : (g : X → Y) (f : X → X) → ((x : X) → g (f x) ≡ g x) → (xs : List X) (place : ℕ) → map g (change_at place f xs) ≡ map g xs
  map-change_at g f same [] place = refl
  map-change_at g f same (x ∷ xs) zero = ap (λ y. y ∷ map g xs) (same x)
  map-change_at g f same (x ∷ xs) (suc place) = ap (λ ys. g x ∷ ys) (map-change_at g f same xs place)
