use Rattle.std.proofs.Common.{◌-◌, length}
use Rattle.first_diagnoses.proofs.rounds.+add_branch.Given as goal

abbrev pub decreases-add_branch : goal.decreases-add_branch
decreases-add_branch l = length l.problem.now.order.now - l.branch.now.place
