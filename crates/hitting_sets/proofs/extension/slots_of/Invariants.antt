use Rattle.std.proofs.Common.{◌<◌, IsTrue}
use Rattle.environment_sets.specs.Members.{members}
use Rattle.environment_sets.specs.Lists.{IsRoster}
use Rattle.hitting_sets.proofs.extension.slots_of.Given as goal

abbrev pub invariant-loop-slot : goal.invariant-loop-slot
invariant-loop-slot l = IsRoster (λ k. IsTrue (members l.env k) × (k < l.slot)) l.slots.items
