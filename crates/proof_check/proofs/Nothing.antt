-- What says nothing.
use Rattle.std.proofs.Common.{◌≡◌, ℕ, zero, suc, Bool, false, List, [], ◌∷◌, Option, Some, None, slice_get, true≢false, sym, subst, ◌∙◌}
use Rattle.circuit_model.specs.declared.model.Primitive.{Primitive}
use Rattle.circuit_model.specs.Inference.{Forces, Refutes, IsInference}

no_word : (p v : ℕ) → slice_get (None ∷ None ∷ None ∷ []) p ≡ Some (Some v) → ⊥
no_word zero v e = cc
no_word (suc zero) v e = cc
no_word (suc (suc zero)) v e = cc
no_word (suc (suc (suc p))) v e = cc

-- where nothing is refuted and nothing is forced, nothing is said
pub nothing_said : (prim : Primitive) (widths : List ℕ) (known : List (Option ℕ)) (refuted : Bool) (forced : List (Option ℕ)) → refuted ≡ false → forced ≡ None ∷ None ∷ None ∷ [] → (Refutes prim widths known → ⊥) → ((p v : ℕ) → Forces prim widths known p v → ⊥) → IsInference prim widths known refuted forced
nothing_said prim widths known refuted forced fine none never nowhere = record {
  refutes_exactly = (λ e. absurd (true≢false (sym e ∙ fine)), λ r. absurd (never r));
  forces_exactly = λ p v. (λ e. absurd (no_word p v (let Q : List (Option ℕ) → Type 0 = λ words. slice_get words p ≡ Some (Some v) in subst Q none e)), λ f. absurd (nowhere p v f));
}
