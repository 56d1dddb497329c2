use Rattle.std.proofs.Common.{true≢false, sym}
use Rattle.environment_sets.specs.Lists.{IsIn}
use Rattle.circuit_model.specs.Chosen.{chosen_places}
use Rattle.proof_check.specs.Written.{facts_of}
use Rattle.proof_check.specs.Checking.{justification_of}
use Rattle.proof_check.proofs.Told.{refuted, premise_fits, refutes_exactly}
use Rattle.proof_check.proofs.checker.is_refuted.Goals as goal

pub returns-in_default : goal.returns-in_default
returns-in_default c = (λ e. absurd (true≢false (sym e)), λ h. absurd (c.in_default.ensures.exact h.instance h.known (refuted c.args.present.now (chosen_places c.args.chosen.now) (λ g. IsIn (facts_of c.args.shown.now) g) (justification_of c.args.claim.now) h)))

pub conclusions-requires-clause-fit : goal.conclusions-requires-clause-fit
conclusions-requires-clause-fit c = premise_fits c.args.present.now (chosen_places c.args.chosen.now) (λ g. IsIn (facts_of c.args.shown.now) g) (justification_of c.args.claim.now) c.in-Some.from.instance c.in-Some.from.known c.in-Some.ensures.exact c.in-Some.ensures.placed c.requires

pub returns : goal.returns
returns c =
    refutes_exactly c.args.present.now (chosen_places c.args.chosen.now) (λ g. IsIn (facts_of c.args.shown.now) g) (justification_of c.args.claim.now) c.in-Some.from.instance c.in-Some.from.known c.in-Some.ensures.exact c.in-Some.ensures.placed.three c.in-Some.ensures.few c.conclusions.result.refuted c.conclusions.result.forced c.conclusions.ensures
