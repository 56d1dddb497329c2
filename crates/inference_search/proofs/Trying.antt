-- What is tried is all that may be known.
use Rattle.std.proofs.Common.{◌≡◌, ℕ, List, [], ◌∷◌, length, Option, Some, None, slice_get, refl, sym, ap, ◌∙◌, arith}
use Rattle.circuit_model.specs.declared.model.Cell.{Cell}
use Rattle.circuit_model.specs.declared.model.Fact.{Fact}
use Rattle.circuit_model.specs.declared.model.Instance.{Instance}
use Rattle.circuit_model.specs.Inference.{ports_of, IsOfPorts}
use Rattle.circuit_model.specs.Closure.{AreHeld}
use Rattle.environment_sets.specs.Lists.{IsIn}
use Rattle.inference_search.specs.declared.inferred.Inferred.{Inferred}
use Rattle.inference_search.specs.Choices.{AreAlike, Uses, IsTold, AreAllDone, IsDoneFrom, AreTries, AreChoices}
use Rattle.circuit_model.proofs.Inferences.{Forces-of_ports}
use Rattle.circuit_model.proofs.SameCells.{fact_by}

AreAlike-held : (H : Fact → Type 0) (cells : List Cell) (known : List (Option ℕ)) → AreHeld H cells known → AreAlike cells known
AreAlike-held H cells known held f g there here one =
    fact_by f g one (held.alike there.port here.port f.value g.value f.cell there.word there.cell here.word (here.cell ∙ ap Some (sym one)))

-- a fact that is at none of the cells is not used
pub not_used : (must : Option Fact) (cells : List Cell) (known : List (Option ℕ)) → (must ≡ None → ⊥) → ((p : ℕ) (f : Fact) → must ≡ Some f → slice_get cells p ≡ Some f.cell → ⊥) → Uses must cells known → ⊥
not_used None cells known none at uses = none refl
not_used (Some f) cells known none at uses = at uses.port f refl uses.cell

module _
    (slot : ℕ) (must : Option Fact) (from : List Fact) (instance : Instance) (ports : instance.ports ≡ ports_of instance.prim)
    (firsts seconds thirds : List (Option ℕ)) (choices : AreChoices from instance.cells instance.ports firsts seconds thirds)
    (found : List Inferred) (done : AreAllDone slot instance must firsts seconds thirds found)
  where
    tried : (known : List (Option ℕ)) → AreHeld (IsIn from) instance.cells known → IsOfPorts instance.prim known → (p : ℕ) (tries : List (Option ℕ)) → AreTries from instance.cells instance.ports p tries → (o : Option ℕ) → slice_get known p ≡ Some o → IsIn tries o
    tried known held within p tries are None e = are.nothing
    tried known held within p tries are (Some v) e = are.words v (rw ports (within p v e)) (held.held p v are.cell e are.there)

    told_at : (known : List (Option ℕ)) → AreHeld (IsIn from) instance.cells known → length known ≡ 3 → Uses must instance.cells known → IsOfPorts instance.prim known → IsTold slot instance known found
    told_at [] held wide uses within = absurd (omega arith)
    told_at (a ∷ []) held wide uses within = absurd (omega arith)
    told_at (a ∷ b ∷ []) held wide uses within = absurd (omega arith)
    told_at (a ∷ b ∷ z ∷ []) held wide uses within =
        let known : List (Option ℕ) = a ∷ b ∷ z ∷ [] in
        done a (tried known held within 0 firsts choices.first a refl) b (tried known held within 1 seconds choices.second b refl) z (tried known held within 2 thirds choices.third z refl) (AreAlike-held (IsIn from) instance.cells known held) uses
    told_at (a ∷ b ∷ z ∷ y ∷ known) held wide uses within = absurd (omega arith)

    pub done_from_all : IsDoneFrom slot from must instance found
    done_from_all known held uses = record {
      forced = λ p v c e f. (told_at known held held.wide uses (Forces-of_ports instance.prim instance.widths known p v f)).forced p v c e f;
      refuted = λ r. (told_at known held held.wide uses r.within).refuted r;
    }
