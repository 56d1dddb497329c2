use Rattle.std.proofs.Common.{sym, subst}
use Rattle.answer_text.proofs.Nameable.{valid_derivations_can_be_written}
use Rattle.circuit_model.proofs.Derivations.{canonical_derivations_are_valid}
use Rattle.circuit_model.specs.Chosen.{chosen_places}
use Rattle.circuit_model.specs.Derivation.{Clash, IsCanonical}
use Rattle.circuit_model.specs.Diagnoses.{Place}
use Rattle.circuit_model.specs.Present.{circuit_of}
use Rattle.circuit_model.specs.Stock.{IsRefutedBy}
use Rattle.circuit_model.specs.Whole.{stock}
use Rattle.environment_sets.specs.Sets.{Set}
use Rattle.proof_check.specs.Written.{derivation_of}
use Rattle.session_undo.proofs.explaining.clash_under.Goals as goal

pub explain_clash-requires : goal.explain_clash-requires
explain_clash-requires c = record { clashes = (let P : Set Place → Type 0 = λ E. IsRefutedBy (stock c.args.present.now) E in subst P (sym c.in_ok-under.ensures) c.requires.nogood.minimal.holds) }

pub returns : goal.returns
returns c =
    let s = c.args.present.now in
    let d = derivation_of c.in_ok-derivation.derivation in
    let P : Set Place → Type 0 = λ E. IsCanonical (circuit_of s) E Clash d in
    let under = c.in_ok-derivation.ensures.canonical in
    record {
      same = c.in_ok-under.ensures;
      canonical = subst P c.in_ok-under.ensures under;
      named = valid_derivations_can_be_written s c.nets-nets.ensures.lawful (chosen_places c.in_ok-under.under) Clash d (canonical_derivations_are_valid (circuit_of s) (chosen_places c.in_ok-under.under) Clash d under);
    }
