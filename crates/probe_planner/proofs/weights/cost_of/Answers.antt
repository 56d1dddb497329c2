use Rattle.std.proofs.Common.{◌<◌, length, zero-add, ◌∙◌, arith}
use Rattle.circuit_model.specs.Present.{circuit_of}
use Rattle.circuit_model.specs.Probe.{positions_in}
use Rattle.environment_sets.specs.Members.{members}
use Rattle.standing_view.specs.Positions.{positions}
use Rattle.probe_planner.specs.Weighing.{cost_at}
use Rattle.probe_planner.proofs.Adding.{added, all_added, as_many_positions, as_many_costs, place_of_position}
use Rattle.probe_planner.proofs.weights.cost_of.Goals as goal

pub loop-place-init : goal.loop-place-init
unfolding cost_at
loop-place-init c = record { rest = zero-add _; small = omega arith }

pub overflow_add-cost : goal.overflow_add-cost
overflow_add-cost c = omega (arith, c.loop-place.invariant.small, c.cost_of_part-cost.ensures.low, c.loop-place-test.true, c.parts-place-end.type_inv)

pub loop-place-preserved : goal.loop-place-preserved
loop-place-preserved c =
    let s = c.args.present.now in
    let low : c.loop-place.place < length s.parts = omega (arith, c.loop-place-test.true, c.parts-place-end.ensures.value) in
    record {
      rest = added (positions_in (circuit_of s)) (circuit_of s).costs c.loop-place.place 0 (positions c.args.standing.now (members c.args.diagnosis.now)) c.loop-place.cost c.cost_of_part-cost.result _ (omega (arith, low, as_many_positions s)) (as_many_costs s) c.loop-place.invariant.rest (c.cost_of_part-cost.ensures.cost ∙ place_of_position s c.loop-place.place (positions c.args.standing.now (members c.args.diagnosis.now)) low);
      small = omega (arith, c.loop-place.invariant.small, c.cost_of_part-cost.ensures.low);
    }

pub returns : goal.returns
returns c =
    let s = c.args.present.now in
    all_added (positions_in (circuit_of s)) (circuit_of s).costs c.loop-place.place (positions c.args.standing.now (members c.args.diagnosis.now)) c.loop-place.cost _ (omega (arith, c.loop-place-test.false, c.parts-place-end.ensures.value, as_many_positions s)) c.loop-place.invariant.rest
