use Rattle.std.proofs.Common.{map, take, refl, true≢false, sym, ◌∙◌}
use Rattle.circuit_model.specs.Chosen.{chosen_places}
use Rattle.circuit_model.specs.Present.{circuit_of}
use Rattle.proof_check.specs.Written.{step_of}
use Rattle.proof_check.proofs.Fitting.{valid_steps_fit}
use Rattle.proof_check.proofs.Valid.{valid_at, valid_more, valid_all}
use Rattle.proof_check.proofs.checker.are_valid.Goals as goal

pub is_valid_step-requires : goal.is_valid_step-requires
is_valid_step-requires c = valid_steps_fit c.args.present.now (chosen_places c.args.chosen.now) c.requires (map step_of (take c.loop-i.i c.args.steps.now)) c.loop-i.invariant

pub returns-then-not-is_valid_step : goal.returns-then-not-is_valid_step
returns-then-not-is_valid_step c = (
  λ e. absurd (true≢false (sym e)),
  λ v. absurd (true≢false (sym (c.is_valid_step.ensures.1 (valid_at (circuit_of c.args.present.now) (chosen_places c.args.chosen.now) c.args.steps.now c.loop-i.i c.loop-i-test.true v)) ∙ c.if-not-is_valid_step.true)),
)

pub loop-i-preserved : goal.loop-i-preserved
loop-i-preserved c = valid_more (circuit_of c.args.present.now) (chosen_places c.args.chosen.now) c.args.steps.now c.loop-i.i c.loop-i-test.true c.loop-i.invariant (c.is_valid_step.ensures.0 c.if-not-is_valid_step.false)

pub returns : goal.returns
returns c = (λ _. valid_all (circuit_of c.args.present.now) (chosen_places c.args.chosen.now) c.args.steps.now c.loop-i.i c.loop-i-test.false c.loop-i.invariant, λ _. refl)
