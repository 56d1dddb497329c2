use Rattle.std.proofs.Common.{◌-◌, []}
use Rattle.environment_sets.specs.declared.environment.TheConstants.{SLOTS}
use Rattle.environment_sets.specs.Members.{members}
use Rattle.inference_search.specs.Near.{AreAdded}
use Rattle.inference_search.proofs.Adding.{IsNearBelow}
use Rattle.inference_search.proofs.near.cells_near.Given as goal

abbrev pub invariant-loop-slot : goal.invariant-loop-slot
invariant-loop-slot l = AreAdded (IsNearBelow l.slots l.cell (members l.near) l.next) [] l.cells.items

abbrev pub decreases-loop-slot : goal.decreases-loop-slot
decreases-loop-slot l = SLOTS - l.next
