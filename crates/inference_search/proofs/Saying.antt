-- What known words say that are not at ports, or do not fit.
use Rattle.std.proofs.Common.{◌≡◌, ◌↔◌, ℕ, zero, suc, Bool, false, IsTrue, List, [], ◌∷◌, Option, Some, None, slice_get, true≢false, sym}
use Rattle.circuit_model.specs.declared.model.Primitive.{Primitive}
use Rattle.circuit_model.specs.Inference.{WordsFit, IsTuple, Matches, IsOfPorts, IsUsed, IsInference}
use Rattle.circuit_model.proofs.Inferences.{word_fits, Forces-of_ports}
use Rattle.component_models.specs.Asking.{HasOpenPort}
use Rattle.propagation.proofs.Matching.{Matches-at}

module _ (prim : Primitive) (widths : List ℕ) (known : List (Option ℕ)) where
  matched_words_fit : (t : List ℕ) → IsTuple prim widths t → Matches known t → WordsFit widths known
  matched_words_fit t tuple matches p w v width word = word_fits prim widths t p w v tuple width (Matches-at known t p v matches word)

  abbrev nothing : List (Option ℕ)
  nothing = None ∷ None ∷ None ∷ []

  no_word : (p v : ℕ) → slice_get nothing p ≡ Some (Some v) → ⊥
  no_word zero v e = cc
  no_word (suc zero) v e = cc
  no_word (suc (suc zero)) v e = cc
  no_word (suc (suc (suc p))) v e = cc

  -- words past the ports say nothing
  pub nothing_past_ports : (IsOfPorts prim known → ⊥) → IsInference prim widths known false (None ∷ None ∷ None ∷ [])
  nothing_past_ports past = record {
    refutes_exactly = (λ e. absurd (true≢false (sym e)), λ r. absurd (past r.within));
    forces_exactly = λ p v. (λ e. absurd (no_word p v e), λ f. absurd (past (Forces-of_ports prim widths known p v f)));
  }

  -- no tuple has a word that does not fit
  pub misfit_refutes : (used : Bool) → IsOfPorts prim known → HasOpenPort prim known → (WordsFit widths known → ⊥) → IsTrue used ↔ IsUsed prim known → IsInference prim widths known used (None ∷ None ∷ None ∷ [])
  misfit_refutes used ports open_port misfit exactly = record {
    refutes_exactly = (λ is. record { used = exactly.0 is; within = ports; open_port = open_port; no_tuple = λ t tuple matches. misfit (matched_words_fit t tuple matches) }, λ r. exactly.1 r.used);
    forces_exactly = λ p v. (λ e. absurd (no_word p v e), λ f. absurd (misfit (matched_words_fit f.some_tuple.0 f.some_tuple.1 f.some_tuple.2)));
  }
