use Rattle.std.proofs.Common.{map}
use Rattle.circuit_model.specs.Chosen.{chosen_places}
use Rattle.proof_check.specs.Written.{step_of}
use Rattle.proof_check.proofs.Fitting.{valid_steps_fit}
use Rattle.proof_check.proofs.checker.check.Goals as goal

pub is_valid_ending-requires : goal.is_valid_ending-requires
is_valid_ending-requires c = valid_steps_fit c.args.present.now (chosen_places c.args.chosen.now) c.cycles-cycles.ensures.lawful (map step_of c.as_slice-steps.result.now) (c.are_valid.ensures.0 c.if-are_valid.true)
