use Rattle.std.proofs.Common.{sym, subst}
use Rattle.answer_text.proofs.Nameable.{valid_derivations_can_be_written}
use Rattle.circuit_model.proofs.Derivations.{canonical_derivations_are_valid}
use Rattle.circuit_model.specs.Chosen.{chosen_places}
use Rattle.circuit_model.specs.Derivation.{Value, IsCanonical}
use Rattle.circuit_model.specs.Diagnoses.{Place}
use Rattle.circuit_model.specs.Present.{circuit_of}
use Rattle.circuit_model.specs.Stock.{Has, IsRefutedBy}
use Rattle.circuit_model.specs.Whole.{stock}
use Rattle.environment_sets.specs.Sets.{Set}
use Rattle.proof_check.specs.Written.{derivation_of}
use Rattle.session_undo.proofs.explaining.explain_under.Goals as goal

pub explain_value-requires-clause-consistent : goal.explain_value-requires-clause-consistent
explain_value-requires-clause-consistent c = let P : Set Place → Type 0 = λ E. IsRefutedBy (stock c.args.present.now) E → ⊥ in subst P (sym c.in_ok-under.ensures) c.requires.member.consistent

pub explain_value-requires-clause-follows : goal.explain_value-requires-clause-follows
explain_value-requires-clause-follows c = let P : Set Place → Type 0 = λ E. Has (stock c.args.present.now) c.args.fact E in subst P (sym c.in_ok-under.ensures) c.requires.member.minimal.holds

pub returns : goal.returns
returns c =
    let s = c.args.present.now in
    let d = derivation_of c.in_ok-derivation.derivation in
    let P : Set Place → Type 0 = λ E. IsCanonical (circuit_of s) E (Value c.args.fact) d in
    let under = c.in_ok-derivation.ensures.canonical in
    record {
      same = c.in_ok-under.ensures;
      canonical = subst P c.in_ok-under.ensures under;
      named = valid_derivations_can_be_written s c.nets-nets.ensures.lawful (chosen_places c.in_ok-under.under) (Value c.args.fact) d (canonical_derivations_are_valid (circuit_of s) (chosen_places c.in_ok-under.under) (Value c.args.fact) d under);
    }
