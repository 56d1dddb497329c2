use Rattle.std.proofs.Common.{◌≡◌, ◌+◌, ◌≤◌, Bool, cond, get_or, drop, sum, ap, ◌∙◌, arith}
use Rattle.environment_sets.specs.Costs.{cost_in}
use Rattle.environment_sets.specs.declared.environment.Env.{Env}
use Rattle.environment_sets.specs.Members.{members}
use Rattle.environment_sets.proofs.CostSums.{cost_in-le}
use Rattle.probe_planner.specs.Covering.{covers}
use Rattle.probe_planner.proofs.Adding.{added, all_added}
use Rattle.probe_planner.proofs.scores.covered_weight.Goals as goal

pub overflow_add-weight : goal.overflow_add-weight
overflow_add-weight c =
    let E : Env → Bool = λ r. covers c.args.label.now (members r) in
    let so : c.loop-i.weight + c.weight_where-weight.result + cost_in (drop (c.loop-i.i + 1) c.args.rests.now) (drop (c.loop-i.i + 1) c.args.weights.now) E ≡ cost_in c.args.rests.now c.args.weights.now E =
    added c.args.rests.now c.args.weights.now c.loop-i.i c.index-rests-i.result E c.loop-i.weight c.weight_where-weight.result _ c.loop-i-test.true c.requires.as_many c.loop-i.invariant (c.weight_where-weight.ensures ∙ ap (λ b. cond b (get_or c.args.weights.now c.loop-i.i 0) 0) (c.covers.ensures ∙ ap E c.index-rests-i.is)) in
    let most : cost_in c.args.rests.now c.args.weights.now E ≤ sum c.args.weights.now = cost_in-le c.args.rests.now c.args.weights.now E in
    omega (arith, so, most, c.requires.small)

pub loop-i-preserved : goal.loop-i-preserved
loop-i-preserved c =
    let E : Env → Bool = λ r. covers c.args.label.now (members r) in
    added c.args.rests.now c.args.weights.now c.loop-i.i c.index-rests-i.result E c.loop-i.weight c.weight_where-weight.result _ c.loop-i-test.true c.requires.as_many c.loop-i.invariant (c.weight_where-weight.ensures ∙ ap (λ b. cond b (get_or c.args.weights.now c.loop-i.i 0) 0) (c.covers.ensures ∙ ap E c.index-rests-i.is))

pub returns : goal.returns
returns c = all_added c.args.rests.now c.args.weights.now c.loop-i.i (λ r. covers c.args.label.now (members r)) c.loop-i.weight _ c.loop-i-test.false c.loop-i.invariant
