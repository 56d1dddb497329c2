use Rattle.std.proofs.Common.{bit_or}
use Rattle.environment_sets.proofs.Words.{IsJoined}
use Rattle.environment_sets.proofs.environment.Env.union.Given as goal

abbrev pub invariant-loop-i : goal.invariant-loop-i
invariant-loop-i l = IsJoined bit_or l.fn.self.words l.fn.other.words l.words l.i
