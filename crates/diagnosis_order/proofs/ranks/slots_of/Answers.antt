use Rattle.environment_sets.specs.Members.{members}
use Rattle.environment_sets.proofs.Listings.{IsIn-get_or}
use Rattle.diagnosis_order.proofs.Sums.{slots_more}
use Rattle.diagnosis_order.proofs.ranks.slots_of.Goals as goal

pub with-slots-requires : goal.with-slots-requires
with-slots-requires c = c.requires.below _ (IsIn-get_or c.args.order.now c.loop-slot.slot-index 0 c.loop-slot-test.true)

pub loop-slot-preserved : goal.loop-slot-preserved
loop-slot-preserved c =
    slots_more c.args.order.now c.loop-slot.slot-index (members c.loop-slot.slots) (members c.with-slots.result) c.loop-slot-test.true c.loop-slot.invariant c.with-slots.ensures
