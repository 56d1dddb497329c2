use Rattle.std.proofs.Common.{◌≤◌, ℕ, length, arith}
use Rattle.environment_sets.specs.Members.{members}
use Rattle.standing_view.specs.Positions.{positions}
use Rattle.standing_diagnoses.proofs.Gathered.{none_below, more_below, all_below}
use Rattle.standing_diagnoses.proofs.sets.positions_of.Goals as goal

pub with_if-found-requires : goal.with_if-found-requires
with_if-found-requires c = omega (arith, c.loop-place-test.true, c.count_parts-place-end.ensures, c.order-order.ensures.standing.parts)

pub loop-place-init : goal.loop-place-init
loop-place-init c = none_below (positions c.args.standing.now (members c.args.environment.now)) (members c.empty-found.result) c.empty-found.ensures

pub loop-place-preserved : goal.loop-place-preserved
loop-place-preserved c =
    more_below (positions c.args.standing.now (members c.args.environment.now)) c.loop-place.place (members c.loop-place.found) (members c.with_if-found.result) c.loop-place.invariant c.has_part.result c.with_if-found.ensures c.has_part.ensures

pub returns : goal.returns
returns c =
    let high : length c.args.standing.now.parts ≤ c.loop-place.place = omega (arith, c.loop-place-test.false, c.count_parts-place-end.ensures) in
    all_below c.args.standing.now (members c.args.environment.now) (members c.loop-place.found) c.loop-place.place high c.loop-place.invariant
