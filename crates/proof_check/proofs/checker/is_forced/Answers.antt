use Rattle.std.proofs.Common.{true≢false, sym}
use Rattle.environment_sets.specs.Lists.{IsIn}
use Rattle.circuit_model.specs.Chosen.{chosen_places}
use Rattle.proof_check.specs.Written.{facts_of}
use Rattle.proof_check.specs.Checking.{justification_of}
use Rattle.proof_check.proofs.Told.{justified, premise_fits, forces_exactly}
use Rattle.proof_check.proofs.checker.is_forced.Goals as goal

pub returns-in_default : goal.returns-in_default
returns-in_default c = (λ e. absurd (true≢false (sym e)), λ h. absurd (c.in_default.ensures.exact h.instance h.known (justified c.args.present.now (chosen_places c.args.chosen.now) (λ g. IsIn (facts_of c.args.earlier.now) g) (justification_of c.args.claim.now) c.args.fact h)))

pub conclusions-said-requires-clause-fit : goal.conclusions-said-requires-clause-fit
conclusions-said-requires-clause-fit c = premise_fits c.args.present.now (chosen_places c.args.chosen.now) (λ g. IsIn (facts_of c.args.earlier.now) g) (justification_of c.args.claim.now) c.in-Some.from.instance c.in-Some.from.known c.in-Some.ensures.exact c.in-Some.ensures.placed c.requires

pub returns : goal.returns
returns c =
    let e = forces_exactly c.args.present.now (chosen_places c.args.chosen.now) (λ g. IsIn (facts_of c.args.earlier.now) g) (justification_of c.args.claim.now) c.in-Some.from.instance c.in-Some.from.known c.in-Some.ensures.exact c.in-Some.ensures.placed.three c.in-Some.ensures.few c.conclusions-said.result.refuted c.conclusions-said.result.forced c.conclusions-said.ensures c.args.fact in
    (λ t. e.0 (c.are_giving.ensures.0 t), λ h. c.are_giving.ensures.1 (e.1 h))
