use Rattle.std.proofs.Common.{refl}
use Rattle.environment_sets.proofs.Listings.{IsIn-get_or}
use Rattle.first_diagnoses.proofs.Branching.{with_branch, with_sought}
use Rattle.first_diagnoses.proofs.branch.Branch.with_next.Goals as goal

pub with-requires : goal.with-requires
with-requires c = c.requires.problem.slots.below _ (IsIn-get_or c.args.problem.now.order.now c.args.self.now.place 0 c.requires.within)

pub without-requires : goal.without-requires
without-requires c = c.requires.problem.slots.below _ (IsIn-get_or c.args.problem.now.order.now c.args.self.now.place 0 c.requires.within)

pub returns-clause-branch : goal.returns-clause-branch
returns-clause-branch c = with_branch c.args.problem.now c.requires.problem c.args.self.now c.requires.branch c.requires.within _ refl c.without.ensures c.with.ensures

pub returns-clause-sought : goal.returns-clause-sought
returns-clause-sought c = with_sought c.args.problem.now c.requires.problem c.args.self.now c.requires.branch c.requires.within _ refl c.without.ensures c.with.ensures
