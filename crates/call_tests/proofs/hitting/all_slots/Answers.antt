use Rattle.std.proofs.Common.{subst, sym}
use Rattle.call_tests.proofs.Rising.{ListsBelow, one_more}
use Rattle.call_tests.proofs.hitting.all_slots.Goals as goal

pub loop-slot-preserved : goal.loop-slot-preserved
loop-slot-preserved c =
    subst (ListsBelow _) (sym c.in_ok-push.ensures.items) (one_more c.loop-slot.slot c.loop-slot.order.items c.loop-slot.invariant)
