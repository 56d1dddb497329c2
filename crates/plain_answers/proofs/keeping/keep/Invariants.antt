use Rattle.std.proofs.Common.{take}
use Rattle.plain_answers.specs.Subsets.{sets, Keeps}
use Rattle.plain_answers.specs.Tests.{Passes}
use Rattle.plain_answers.proofs.keeping.keep.Given as goal

abbrev pub invariant-loop-one : goal.invariant-loop-one
invariant-loop-one l = Keeps (Passes l.present l.test) (sets (take l.one-index l.all)) (sets l.kept.items)
