use Rattle.circuit_model.specs.Chosen.{chosen_places}
use Rattle.proof_check.specs.Rounds.{AreLookedAt, from_here}
use Rattle.proof_check.proofs.looking.look.Given as goal

abbrev pub invariant-loop-part : goal.invariant-loop-part
invariant-loop-part l = AreLookedAt l.round.present.now (chosen_places l.round.chosen.now) l.round.held.now (from_here l.part 0 0) l.found
