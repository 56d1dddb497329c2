use Rattle.std.proofs.Common.{◌≡◌, ◌≤◌, ◌*◌}
use Rattle.environment_sets.specs.Sets.{size_below}
use Rattle.environment_sets.specs.Members.{members}
use Rattle.environment_sets.specs.declared.environment.TheConstants.{WORD_BITS}
use Rattle.environment_sets.proofs.environment.Env.size.Given as goal

abbrev pub invariant-loop-i : goal.invariant-loop-i
invariant-loop-i l = record { counted : l.size ≡ size_below (l.i * WORD_BITS) (members l.self); few : l.size ≤ l.i * WORD_BITS }
