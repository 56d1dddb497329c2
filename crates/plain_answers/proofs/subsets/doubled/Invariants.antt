use Rattle.std.proofs.Common.{take}
use Rattle.plain_answers.specs.Subsets.{sets, IsDoubled}
use Rattle.plain_answers.proofs.subsets.doubled.Given as goal

abbrev pub invariant-loop-one : goal.invariant-loop-one
invariant-loop-one l = IsDoubled l.name (sets (take l.one-index l.all)) (sets l.both.items)
