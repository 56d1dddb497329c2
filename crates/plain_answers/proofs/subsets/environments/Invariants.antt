use Rattle.environment_sets.specs.Lists.{IsRoster}
use Rattle.plain_answers.specs.Subsets.{sets, IsWithin, IsPartOrCell}
use Rattle.plain_answers.proofs.subsets.environments.Given as goal

abbrev pub invariant-loop-place : goal.invariant-loop-place
invariant-loop-place l = IsRoster (IsWithin (IsPartOrCell l.present l.place)) (sets l.all.items)
