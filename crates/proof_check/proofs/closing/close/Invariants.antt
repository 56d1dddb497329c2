use Rattle.std.proofs.Common.{◌+◌, ◌-◌, ◌*◌}
use Rattle.circuit_model.specs.declared.limits.TheConstants.{MOST_CYCLES, MOST_NETS}
use Rattle.circuit_model.specs.Chosen.{chosen_places}
use Rattle.proof_check.specs.Turns.{IsAtRound}
use Rattle.proof_check.proofs.closing.close.Given as goal

abbrev pub invariant-loop-closing : goal.invariant-loop-closing
invariant-loop-closing l = IsAtRound l.present (chosen_places l.chosen) l.closing

abbrev pub decreases-loop-closing : goal.decreases-loop-closing
decreases-loop-closing l = MOST_NETS * MOST_CYCLES + 2 - l.closing.round
