use Rattle.std.proofs.Common.{◌≡◌, ◌+◌, ◌*◌, ◌≤◌, cond, get_or, drop, arith}
use Rattle.environment_sets.specs.declared.environment.TheConstants.{SLOTS}
use Rattle.environment_sets.specs.Members.{members}
use Rattle.environment_sets.proofs.Listings.{IsIn-get_or}
use Rattle.environment_sets.proofs.Slots.{slots_are_below}
use Rattle.environment_sets.specs.Costs.{cost_in}
use Rattle.environment_sets.proofs.CostSums.{cost_step, cost_past}
use Rattle.diagnosis_order.proofs.Sums.{cost_bound}
use Rattle.first_diagnoses.specs.declared.problem.TheConstants.{MOST_WEIGHT}
use Rattle.first_diagnoses.proofs.problem.weight_of.Goals as goal

pub weight_at-weight-requires : goal.weight_at-weight-requires
weight_at-weight-requires c = c.requires.problem.slots.below _ (IsIn-get_or c.args.problem.now.order.now c.loop-i.i 0 c.loop-i-test.true)

pub overflow_add-weight : goal.overflow_add-weight
overflow_add-weight c =
    let order = c.args.problem.now.order.now in
    let weights = c.args.problem.now.weights.now in
    let E = members c.args.set.now in
    let bound : cost_in order weights E ≤ MOST_WEIGHT * SLOTS = cost_bound SLOTS MOST_WEIGHT order weights E c.requires.problem.slots c.requires.listed (slots_are_below c.args.set.now) c.requires.problem.fit in
    let step : cost_in (drop c.loop-i.i order) (drop c.loop-i.i weights) E ≡ cond (E (get_or order c.loop-i.i 0)) (get_or weights c.loop-i.i 0) 0 + cost_in (drop (c.loop-i.i + 1) order) (drop (c.loop-i.i + 1) weights) E =
    cost_step 0 order weights c.loop-i.i E c.loop-i-test.true c.requires.problem.weighed in
    omega (arith, c.weight_at-weight.ensures, c.loop-i.invariant)

pub loop-i-preserved : goal.loop-i-preserved
loop-i-preserved c =
    let order = c.args.problem.now.order.now in
    let weights = c.args.problem.now.weights.now in
    let E = members c.args.set.now in
    let step : cost_in (drop c.loop-i.i order) (drop c.loop-i.i weights) E ≡ cond (E (get_or order c.loop-i.i 0)) (get_or weights c.loop-i.i 0) 0 + cost_in (drop (c.loop-i.i + 1) order) (drop (c.loop-i.i + 1) weights) E =
    cost_step 0 order weights c.loop-i.i E c.loop-i-test.true c.requires.problem.weighed in
    omega (arith, c.weight_at-weight.ensures, c.loop-i.invariant)

pub returns : goal.returns
returns c =
    let past : cost_in (drop c.loop-i.i c.args.problem.now.order.now) (drop c.loop-i.i c.args.problem.now.weights.now) (members c.args.set.now) ≡ 0 =
    cost_past c.args.problem.now.order.now c.args.problem.now.weights.now c.loop-i.i (members c.args.set.now) c.loop-i-test.false in
    omega (arith, c.loop-i.invariant)
