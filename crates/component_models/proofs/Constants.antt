-- Constants.
use Rattle.std.proofs.Common.{◌≡◌, ℕ, ◌^◌, ◌<◌, false, refl, List, [], ◌∷◌, Some, None, slice_get}
use Rattle.circuit_model.specs.declared.model.Primitive.TheVariants.{Const}
use Rattle.circuit_model.specs.Inference.{IsTuple, Matches, IsInference}
use Rattle.component_models.proofs.Functions.{one_fits}
use Rattle.component_models.proofs.Ports.{Forced, Absent, not_refuted}

module _ (value w : ℕ) (widths : List ℕ) where
  by_word : (C : List ℕ → Type 0) → C (value ∷ []) → (t : List ℕ) → IsTuple (Const value) (w ∷ widths) t → C t
  by_word C here [] h = absurd h.relates
  by_word C here (z ∷ []) h = let e : z ≡ value = h.relates in rw e here
  by_word C here (z ∷ x ∷ t) h = absurd h.relates

  pub const_is_exact : value < 2 ^ w → IsInference (Const value) (w ∷ widths) (None ∷ None ∷ None ∷ []) false (Some value ∷ None ∷ None ∷ [])
  const_is_exact p =
      not_refuted (Const value) (w ∷ widths) (None ∷ None ∷ None ∷ []) tt (value ∷ []) (record { fits = one_fits w widths value p; relates = refl }) tt (Some value) None None refl
      (Forced value refl (by_word (λ t. Matches (None ∷ None ∷ None ∷ []) t → slice_get t 0 ≡ Some value) (λ k. refl)))
      (Absent (by_word (λ t. slice_get t 1 ≡ None) refl))
      (Absent (by_word (λ t. slice_get t 2 ≡ None) refl))
