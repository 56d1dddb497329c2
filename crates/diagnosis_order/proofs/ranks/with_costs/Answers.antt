use Rattle.std.proofs.Common.{subst, sym}
use Rattle.environment_sets.specs.Members.{members}
use Rattle.environment_sets.specs.Lists.{IsIn}
use Rattle.environment_sets.proofs.Listings.{IsIn-get_or}
use Rattle.environment_sets.proofs.Membership.{map-IsIn}
use Rattle.diagnosis_order.proofs.ranks.with_costs.Goals as goal

pub cost_of-cost-requires-clause-listed : goal.cost_of-cost-requires-clause-listed
cost_of-cost-requires-clause-listed c =
    let there : IsIn c.args.environments.now c.set-item.result =
    subst (IsIn c.args.environments.now) (sym c.set-item.is) (IsIn-get_or c.args.environments.now c.loop-set.set-index c.set-item.result c.loop-set-test.true) in
    c.requires.listed (members c.set-item.result) (map-IsIn members c.args.environments.now c.set-item.result there)
