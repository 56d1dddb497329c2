use Rattle.circuit_model.specs.Chosen.{chosen_places}
use Rattle.proof_check.specs.Rounds.{AreLookedAt, from_here}
use Rattle.proof_check.proofs.looking.look_at_site.Given as goal

abbrev pub invariant-loop-ports : goal.invariant-loop-ports
invariant-loop-ports l = AreLookedAt l.round.present.now (chosen_places l.round.chosen.now) l.round.held.now (from_here l.site.part l.site.place l.ports) l.found
