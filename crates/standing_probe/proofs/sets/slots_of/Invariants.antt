use Rattle.environment_sets.specs.Members.{members}
use Rattle.standing_probe.proofs.Chosen.{AreChosenBelow}
use Rattle.standing_probe.proofs.sets.slots_of.Given as goal

abbrev pub invariant-loop-place : goal.invariant-loop-place
invariant-loop-place l = AreChosenBelow l.standing (members l.environment) l.place (members l.found)
