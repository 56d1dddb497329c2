use Rattle.std.proofs.Common.{bit_and}
use Rattle.environment_sets.proofs.Words.{IsJoined}
use Rattle.environment_sets.proofs.environment.Env.meet.Given as goal

abbrev pub invariant-loop-i : goal.invariant-loop-i
invariant-loop-i l = IsJoined bit_and l.fn.self.words l.fn.other.words l.words l.i
