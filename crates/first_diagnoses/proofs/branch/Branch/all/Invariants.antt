use Rattle.std.proofs.Common.{ℕ, ◌↔◌, IsTrue, take}
use Rattle.environment_sets.specs.Members.{members}
use Rattle.environment_sets.specs.Lists.{IsIn}
use Rattle.first_diagnoses.proofs.branch.Branch.all.Given as goal

abbrev pub invariant-loop-slot : goal.invariant-loop-slot
invariant-loop-slot l = (k : ℕ) → IsTrue (members l.open k) ↔ IsIn (take l.slot-index l.problem.order.now) k
