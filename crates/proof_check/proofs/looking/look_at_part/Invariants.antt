use Rattle.circuit_model.specs.Chosen.{chosen_places}
use Rattle.proof_check.specs.Rounds.{AreLookedAt, from_here}
use Rattle.proof_check.proofs.looking.look_at_part.Given as goal

abbrev pub invariant-loop-place : goal.invariant-loop-place
invariant-loop-place l = AreLookedAt l.round.present.now (chosen_places l.round.chosen.now) l.round.held.now (from_here l.part l.place 0) l.found
