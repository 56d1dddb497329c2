use Rattle.std.proofs.Common.{map, reverse}
use Rattle.circuit_model.specs.Chosen.{chosen_places}
use Rattle.proof_check.specs.Written.{given, step_of}
use Rattle.explanations.proofs.Walked.{IsWalked}
use Rattle.explanations.proofs.walk.walk.Given as goal

abbrev pub invariant-loop-i : goal.invariant-loop-i
invariant-loop-i l = IsWalked l.present (chosen_places l.chosen) l.closed (given l.goals) l.i l.marks (map step_of (reverse l.steps.items))
