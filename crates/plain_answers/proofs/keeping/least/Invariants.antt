use Rattle.std.proofs.Common.{take}
use Rattle.plain_answers.specs.Subsets.{sets, Keeps}
use Rattle.plain_answers.specs.Tests.{IsLeastIn}
use Rattle.plain_answers.proofs.keeping.least.Given as goal

abbrev pub invariant-loop-one : goal.invariant-loop-one
invariant-loop-one l = Keeps (IsLeastIn (sets l.all)) (sets (take l.one-index l.all)) (sets l.kept.items)
