use Rattle.std.proofs.Common.{refl}
use Rattle.environment_sets.proofs.Listings.{IsIn-get_or}
use Rattle.first_diagnoses.proofs.Branching.{without_branch, without_sought}
use Rattle.first_diagnoses.proofs.branch.Branch.without_next.Goals as goal

pub without-requires : goal.without-requires
without-requires c = c.requires.problem.slots.below _ (IsIn-get_or c.args.problem.now.order.now c.args.self.now.place 0 c.requires.within)

pub returns-clause-branch : goal.returns-clause-branch
returns-clause-branch c = without_branch c.args.problem.now c.requires.problem c.args.self.now c.requires.branch c.requires.within _ refl c.without.ensures refl

pub returns-clause-sought : goal.returns-clause-sought
returns-clause-sought c = without_sought c.args.problem.now c.requires.problem c.args.self.now c.requires.branch c.requires.within _ refl c.without.ensures refl
