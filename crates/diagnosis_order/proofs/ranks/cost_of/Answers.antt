use Rattle.std.proofs.Common.{◌≡◌, ◌+◌, ◌*◌, ◌≤◌, cond, get_or, drop, arith}
use Rattle.environment_sets.specs.declared.environment.TheConstants.{SLOTS}
use Rattle.environment_sets.specs.Members.{members}
use Rattle.environment_sets.proofs.Listings.{IsIn-get_or}
use Rattle.environment_sets.proofs.Slots.{slots_are_below}
use Rattle.environment_sets.specs.Costs.{cost_in}
use Rattle.environment_sets.proofs.CostSums.{cost_step, cost_past}
use Rattle.diagnosis_order.proofs.Sums.{cost_bound}
use Rattle.diagnosis_order.proofs.ranks.cost_of.Goals as goal

pub cost_at-cost-requires : goal.cost_at-cost-requires
cost_at-cost-requires c = c.requires.slots.below _ (IsIn-get_or c.args.order.now c.loop-i.i 0 c.loop-i-test.true)

pub overflow_add-cost : goal.overflow_add-cost
overflow_add-cost c =
    let order = c.args.order.now in
    let costs = c.args.costs.now in
    let E = members c.args.set.now in
    let bound : cost_in order costs E ≤ 255 * SLOTS = cost_bound SLOTS 255 order costs E c.requires.slots c.requires.listed (slots_are_below c.args.set.now) (λ k. omega (arith, c.type_inv.costs k)) in
    let step : cost_in (drop c.loop-i.i order) (drop c.loop-i.i costs) E ≡ cond (E (get_or order c.loop-i.i 0)) (get_or costs c.loop-i.i 0) 0 + cost_in (drop (c.loop-i.i + 1) order) (drop (c.loop-i.i + 1) costs) E =
    cost_step 0 order costs c.loop-i.i E c.loop-i-test.true c.requires.costs in
    omega (arith, c.cost_at-cost.ensures, c.loop-i.invariant)

pub loop-i-preserved : goal.loop-i-preserved
loop-i-preserved c =
    let order = c.args.order.now in
    let costs = c.args.costs.now in
    let E = members c.args.set.now in
    let step : cost_in (drop c.loop-i.i order) (drop c.loop-i.i costs) E ≡ cond (E (get_or order c.loop-i.i 0)) (get_or costs c.loop-i.i 0) 0 + cost_in (drop (c.loop-i.i + 1) order) (drop (c.loop-i.i + 1) costs) E =
    cost_step 0 order costs c.loop-i.i E c.loop-i-test.true c.requires.costs in
    omega (arith, c.cost_at-cost.ensures, c.loop-i.invariant)

pub returns : goal.returns
returns c =
    let past : cost_in (drop c.loop-i.i c.args.order.now) (drop c.loop-i.i c.args.costs.now) (members c.args.set.now) ≡ 0 =
    cost_past c.args.order.now c.args.costs.now c.loop-i.i (members c.args.set.now) c.loop-i-test.false in
    omega (arith, c.loop-i.invariant)
