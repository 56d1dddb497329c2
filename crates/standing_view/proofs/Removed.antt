-- One slot or one cell less.
use Rattle.std.proofs.Common.{◌≡◌, ℕ, zero, suc, ◌⊎◌, inl, inr, List, [], ◌∷◌, ◌++◌, map, take, drop, Some, sym, ap₂, ◌∙◌}
use Rattle.std.specs.List.{remove, slice_get}
use Rattle.std.proofs.lemmas.List.{map-append, take-map, drop-map}
use Rattle.environment_sets.specs.Lists.{IsIn, IsRising, AreDistinct}
use Rattle.environment_sets.specs.Orders.{IsOrder}
use Rattle.environment_sets.proofs.Membership.{IsIn-right, IsIn-slice_get}
use Rattle.circuit_model.proofs.Presents.{IsIn-front_remove, AreDistinct-front_remove}

module _ {X : Type 0} where
  pub rising_removed : (before : X → X → Type 0) (ys : List X) (i : ℕ) → IsRising before ys → IsRising before (remove ys i)
  rising_removed before [] zero h = tt
  rising_removed before [] (suc i) h = tt
  rising_removed before (y ∷ ys) zero h = h.1
  rising_removed before (y ∷ ys) (suc i) h = ((λ x at. h.0 x (IsIn-front_remove [] ys i x at)), rising_removed before ys i h.1)

  this_or_rest : (ys : List X) (i : ℕ) (z x : X) → slice_get ys i ≡ Some z → IsIn ys x → (z ≡ x) ⊎ IsIn (remove ys i) x
  this_or_rest [] i z x at h = absurd h
  this_or_rest (y ∷ ys) zero z x at (inl e) = let same : y ≡ z = cc in inl (sym same ∙ e)
  this_or_rest (y ∷ ys) zero z x at (inr h) = inr h
  this_or_rest (y ∷ ys) (suc i) z x at (inl e) = inr (inl e)
  this_or_rest (y ∷ ys) (suc i) z x at (inr h) = elim (this_or_rest ys i z x at h) as (λ _. (z ≡ x) ⊎ IsIn (y ∷ remove ys i) x) [ inl e ↦ inl e | inr l ↦ inr (inr l) ]

  not_in_rest : (ys : List X) (i : ℕ) (z : X) → AreDistinct ys → slice_get ys i ≡ Some z → IsIn (remove ys i) z → ⊥
  not_in_rest [] i z apart at h = cc
  not_in_rest (y ∷ ys) zero z apart at h = let same : y ≡ z = cc in apart.0 z h same
  not_in_rest (y ∷ ys) (suc i) z apart at (inl e) = apart.0 z (IsIn-slice_get ys i z at) e
  not_in_rest (y ∷ ys) (suc i) z apart at (inr h) = not_in_rest ys i z apart.1 at h

  -- what stood is the one that is removed, or stands
  pub this_or_removed : (xs ys : List X) (i : ℕ) (z x : X) → slice_get ys i ≡ Some z → IsIn (xs ++ ys) x → (z ≡ x) ⊎ IsIn (xs ++ remove ys i) x
  this_or_removed [] ys i z x at h = this_or_rest ys i z x at h
  this_or_removed (y ∷ xs) ys i z x at (inl e) = inr (inl e)
  this_or_removed (y ∷ xs) ys i z x at (inr h) = elim (this_or_removed xs ys i z x at h) as (λ _. (z ≡ x) ⊎ IsIn (y ∷ (xs ++ remove ys i)) x) [ inl e ↦ inl e | inr l ↦ inr (inr l) ]

  pub not_in_removed : (xs ys : List X) (i : ℕ) (z : X) → AreDistinct (xs ++ ys) → slice_get ys i ≡ Some z → IsIn (xs ++ remove ys i) z → ⊥
  not_in_removed [] ys i z apart at h = not_in_rest ys i z apart at h
  not_in_removed (x ∷ xs) ys i z apart at (inl e) = apart.0 z (IsIn-right xs ys z (IsIn-slice_get ys i z at)) e
  not_in_removed (x ∷ xs) ys i z apart at (inr h) = not_in_removed xs ys i z apart.1 at h

pub order_removed : (n : ℕ) (xs ys : List ℕ) (i : ℕ) → IsOrder n (xs ++ ys) → IsOrder n (xs ++ remove ys i)
order_removed n xs ys i o = record { below = λ k h. o.below k (IsIn-front_remove xs ys i k h); distinct = AreDistinct-front_remove xs ys i o.distinct }
