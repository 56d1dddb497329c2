use Rattle.std.proofs.Common.{◌+◌, ◌*◌, ◌<◌}
use Rattle.environment_sets.specs.declared.environment.TheConstants.{WORD_BITS}
use Rattle.environment_sets.specs.Members.{members}
use Rattle.environment_sets.proofs.Stepping.{HasPassed}
use Rattle.environment_sets.proofs.environment.Env.next_from.Given as goal

abbrev pub invariant-loop-i : goal.invariant-loop-i
invariant-loop-i l = record { low : l.bit < WORD_BITS; passed : HasPassed (members l.self) l.fn.from (l.i * WORD_BITS + l.bit) }
