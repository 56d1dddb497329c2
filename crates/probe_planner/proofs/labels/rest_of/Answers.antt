use Rattle.std.proofs.Common.{ℕ, List, ap, ◌∙◌}
use Rattle.environment_sets.specs.Sets.{Set, ◌∖◌}
use Rattle.standing_view.specs.Standing.{is_among}
use Rattle.environment_sets.specs.Members.{members}
use Rattle.environment_sets.proofs.Listings.{IsIn-get_or}
use Rattle.probe_planner.proofs.Covers.{outside_more, outside_all}
use Rattle.probe_planner.proofs.labels.rest_of.Goals as goal

pub loop-slot-init : goal.loop-slot-init
loop-slot-init c = λ k. ap (λ (E : Set ℕ). E k) c.empty-rest.ensures

pub with_outside-rest-requires : goal.with_outside-rest-requires
with_outside-rest-requires c = c.order-slot-items.ensures.slots.below _ (IsIn-get_or c.order-slot-items.result.now c.loop-slot.slot-index 0 c.loop-slot-test.true)

pub loop-slot-preserved : goal.loop-slot-preserved
loop-slot-preserved c =
    outside_more c.order-slot-items.result.now c.loop-slot.slot-index (members c.args.diagnosis.now) (members c.loop-slot.rest) (members c.with_outside-rest.result) c.loop-slot-test.true c.loop-slot.invariant c.with_outside-rest.ensures

pub returns : goal.returns
returns c =
    outside_all c.order-slot-items.result.now c.loop-slot.slot-index (members c.args.diagnosis.now) (members c.loop-slot.rest) c.loop-slot-test.false c.loop-slot.invariant
    ∙ ap (λ (xs : List ℕ). is_among xs ∖ members c.args.diagnosis.now) c.order-slot-items.ensures.value
