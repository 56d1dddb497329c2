use Rattle.std.proofs.Common.{[], map, take}
use Rattle.circuit_model.specs.Chosen.{chosen_places}
use Rattle.circuit_model.specs.Derivation.{AreValidAfter}
use Rattle.circuit_model.specs.Present.{circuit_of}
use Rattle.proof_check.specs.Written.{step_of}
use Rattle.proof_check.proofs.checker.are_valid.Given as goal

abbrev pub invariant-loop-i : goal.invariant-loop-i
invariant-loop-i l = AreValidAfter (circuit_of l.present) (chosen_places l.chosen) [] (map step_of (take l.i l.steps))
