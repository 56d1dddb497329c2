use Rattle.environment_sets.specs.Lists.{IsRoster}
use Rattle.plain_answers.specs.Subsets.{sets, IsWithin, IsPart}
use Rattle.plain_answers.proofs.subsets.part_sets.Given as goal

abbrev pub invariant-loop-place : goal.invariant-loop-place
invariant-loop-place l = IsRoster (IsWithin (IsPart l.place)) (sets l.all.items)
