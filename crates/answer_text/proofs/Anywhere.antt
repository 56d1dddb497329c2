-- Whether some element of a list passes a test, as a loop finds out.
use Rattle.std.proofs.Common.{◌≡◌, ℕ, zero, suc, ◌+◌, Bool, true, false, ◌||◌, List, [], ◌∷◌, take, Option, Some, refl, ap, subst, ◌∙◌, arith}
use Rattle.std.specs.List.{list_any, slice_get}

module _ {X : Type 0} (p : X → Bool) where
  or_right : (a b : Bool) → b ≡ true → (a || b) ≡ true
  or_right true b e = refl
  or_right false b e = e

  or_left : (a b : Bool) → a ≡ true → (a || b) ≡ true
  or_left true b e = refl
  or_left false b e = cc

  both_false : (a b : Bool) → a ≡ false → b ≡ false → (a || b) ≡ false
  both_false true b e f = cc
  both_false false b e f = f

  first_false : (a b : Bool) → (a || b) ≡ false → a ≡ false
  first_false true b e = cc
  first_false false b e = refl

  later_false : (a b : Bool) → (a || b) ≡ false → b ≡ false
  later_false true b e = cc
  later_false false b e = e

  -- an element that passes
  pub any_at : (xs : List X) (i : ℕ) (x : X) → slice_get xs i ≡ Some x → p x ≡ true → list_any p xs ≡ true
  any_at [] i x at e = cc
  any_at (y ∷ xs) zero x at e = let same : y ≡ x = cc in or_left (p y) (list_any p xs) (ap p same ∙ e)
  any_at (y ∷ xs) (suc i) x at e = or_right (p y) (list_any p xs) (any_at xs i x at e)

  none_more_of : (xs : List X) (i : ℕ) (x : X) → list_any p (take i xs) ≡ false → slice_get xs i ≡ Some x → p x ≡ false → list_any p (take (suc i) xs) ≡ false
  none_more_of [] i x was at e = cc
  none_more_of (y ∷ xs) zero x was at e = let same : y ≡ x = cc in both_false (p y) false (ap p same ∙ e) refl
  none_more_of (y ∷ xs) (suc i) x was at e = both_false (p y) (list_any p (take (suc i) xs)) (first_false (p y) (list_any p (take i xs)) was) (none_more_of xs i x (later_false (p y) (list_any p (take i xs)) was) at e)

  -- one more that does not
  pub none_more : (xs : List X) (i : ℕ) (x : X) → list_any p (take i xs) ≡ false → slice_get xs i ≡ Some x → p x ≡ false → list_any p (take (i + 1) xs) ≡ false
  none_more xs i x was at e = let next : suc i ≡ i + 1 = omega arith in subst (λ (n : ℕ). list_any p (take n xs) ≡ false) next (none_more_of xs i x was at e)
