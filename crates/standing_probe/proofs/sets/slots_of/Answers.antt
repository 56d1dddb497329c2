use Rattle.std.proofs.Common.{◌≤◌, length, arith}
use Rattle.environment_sets.specs.declared.environment.TheConstants.{SLOTS}
use Rattle.environment_sets.specs.Members.{members}
use Rattle.standing_probe.proofs.Chosen.{none_chosen, more_chosen, all_chosen, slot_below}
use Rattle.standing_probe.proofs.sets.slots_of.Goals as goal

pub has-requires : goal.has-requires
has-requires c = omega (arith, c.loop-place-test.true, c.count_parts-place-end.ensures, c.order-order.ensures.standing.parts)

pub with_if-found-requires : goal.with_if-found-requires
with_if-found-requires c = slot_below SLOTS c.args.standing.now c.order-order.ensures.standing.order c.loop-place.place c.part_slot-slot.result c.part_slot-slot.ensures

pub loop-place-init : goal.loop-place-init
loop-place-init c = none_chosen c.args.standing.now (members c.args.environment.now) (members c.empty-found.result) c.empty-found.ensures

pub loop-place-preserved : goal.loop-place-preserved
loop-place-preserved c =
    more_chosen c.args.standing.now (members c.args.environment.now) c.loop-place.place c.part_slot-slot.result c.part_slot-slot.ensures (members c.loop-place.found) (members c.with_if-found.result) c.loop-place.invariant c.has.result c.with_if-found.ensures c.has.ensures

pub returns : goal.returns
returns c =
    let high : length c.args.standing.now.parts ≤ c.loop-place.place = omega (arith, c.loop-place-test.false, c.count_parts-place-end.ensures) in
    all_chosen c.args.standing.now c.order-order.ensures.standing (members c.args.environment.now) c.requires c.loop-place.place high (members c.loop-place.found) c.loop-place.invariant
