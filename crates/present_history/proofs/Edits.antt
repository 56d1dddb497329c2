-- Edits of a list that are taken back.
use Rattle.std.proofs.Common.{◌≡◌, ℕ, zero, suc, ◌-◌, ◌<◌, List, [], ◌∷◌, ◌++◌, length, take, slice_get, unwrap_or, Some, refl, ap, ◌∙◌, arith}
use Rattle.std.proofs.lemmas.List.{length_push}
use Rattle.std.proofs.Math.Seq.{take-append_seam}
use Rattle.circuit_model.specs.Present.{change_at, without_last}

module _ {X : Type 0} where
  pub last-push : (xs : List X) (x : X) → length (xs ++ x ∷ []) - 1 ≡ length xs
  last-push xs x = omega (arith, length_push xs x)

  -- one more element, and without the last one
  pub without_last-push : (xs : List X) (x : X) → without_last (xs ++ x ∷ []) ≡ xs
  without_last-push xs x = ap (λ n. take n (xs ++ x ∷ [])) (last-push xs x) ∙ take-append_seam xs (x ∷ [])

  -- a change of one element, and one that takes it back
  pub change_at_back : (f g : X → X) (xs : List X) (place : ℕ) → ((x : X) → slice_get xs place ≡ Some x → g (f x) ≡ x) → change_at place g (change_at place f xs) ≡ xs
  change_at_back f g [] place same = refl
  change_at_back f g (x ∷ xs) zero same = ap (λ y. y ∷ xs) (same x refl)
  change_at_back f g (x ∷ xs) (suc place) same = ap (λ ys. x ∷ ys) (change_at_back f g xs place same)

  -- the element that was changed
  pub unwrap_or-change_at : (f : X → X) (xs : List X) (place : ℕ) (d : X) → place < length xs → unwrap_or (slice_get (change_at place f xs) place) d ≡ f (unwrap_or (slice_get xs place) d)
  unwrap_or-change_at f [] place d h = absurd (omega arith)
  unwrap_or-change_at f (x ∷ xs) zero d h = refl
  unwrap_or-change_at f (x ∷ xs) (suc place) d h = unwrap_or-change_at f xs place d (omega arith)
