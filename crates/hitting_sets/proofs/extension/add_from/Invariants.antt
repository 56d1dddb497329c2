use Rattle.std.proofs.Common.{take}
use Rattle.environment_sets.specs.Members.{members}
use Rattle.hitting_sets.specs.Hitting.{Adds}
use Rattle.hitting_sets.proofs.Steps.{BecomesBy}
use Rattle.hitting_sets.proofs.extension.add_from.Given as goal

abbrev pub invariant-loop-slot : goal.invariant-loop-slot
invariant-loop-slot l = Adds (BecomesBy l.before l.conflict (members l.set) (take l.slot-index l.slots)) l.initial.found.items l.found.items
