use Rattle.std.proofs.Common.{ℕ, ◌<◌, IsTrue}
use Rattle.environment_sets.specs.Members.{members}
use Rattle.environment_sets.proofs.environment.Env.is_subset.Given as goal

abbrev pub invariant-loop-i : goal.invariant-loop-i
invariant-loop-i l = (k : ℕ) → k < l.i → IsTrue (members l.self k) → IsTrue (members l.other k)
