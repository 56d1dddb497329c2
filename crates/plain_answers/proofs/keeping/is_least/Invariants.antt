use Rattle.std.proofs.Common.{take}
use Rattle.plain_answers.specs.Members.{members}
use Rattle.plain_answers.specs.Subsets.{sets}
use Rattle.plain_answers.specs.Tests.{IsLeastIn}
use Rattle.plain_answers.proofs.keeping.is_least.Given as goal

abbrev pub invariant-loop-other : goal.invariant-loop-other
invariant-loop-other l = IsLeastIn (sets (take l.other-index l.all)) (members l.one)
