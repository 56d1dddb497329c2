use Rattle.std.proofs.Common.{drop}
use Rattle.environment_sets.specs.Lists.{IsIn}
use Rattle.standing_view.proofs.standing.place_of_slot.Given as goal

abbrev pub invariant-loop-place : goal.invariant-loop-place
invariant-loop-place l = IsIn (drop l.place l.slots) l.slot
