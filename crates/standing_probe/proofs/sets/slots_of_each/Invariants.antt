use Rattle.std.proofs.Common.{take}
use Rattle.standing_probe.proofs.Chosen.{AreSlotsOfEach}
use Rattle.standing_probe.proofs.sets.slots_of_each.Given as goal

abbrev pub invariant-loop-environment : goal.invariant-loop-environment
invariant-loop-environment l = AreSlotsOfEach l.standing l.found.items (take l.environment-index l.environments)
