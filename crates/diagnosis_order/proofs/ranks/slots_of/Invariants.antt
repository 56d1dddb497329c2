use Rattle.std.proofs.Common.{ℕ, ◌↔◌, IsTrue, take}
use Rattle.environment_sets.specs.Members.{members}
use Rattle.environment_sets.specs.Lists.{IsIn}
use Rattle.diagnosis_order.proofs.ranks.slots_of.Given as goal

abbrev pub invariant-loop-slot : goal.invariant-loop-slot
invariant-loop-slot l = (k : ℕ) → IsTrue (members l.slots k) ↔ IsIn (take l.slot-index l.order) k
