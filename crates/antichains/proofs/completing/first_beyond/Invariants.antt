use Rattle.std.proofs.Common.{ℕ, ◌<◌, IsTrue}
use Rattle.environment_sets.specs.Members.{members}
use Rattle.antichains.proofs.completing.first_beyond.Given as goal

abbrev pub invariant-loop-slot : goal.invariant-loop-slot
invariant-loop-slot l = (k : ℕ) → k < l.slot → IsTrue (members l.member k) → IsTrue (members l.env k)
