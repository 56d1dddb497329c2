use Rattle.std.proofs.Common.{arith, None}
use Rattle.std.proofs.lemmas.List.{length_push}
use Rattle.assumption_slots.proofs.Free.{one_more_free}
use Rattle.assumption_slots.proofs.slots.Slots.open.Goals as goal

pub loop-slot-preserved : goal.loop-slot-preserved
loop-slot-preserved c = (
  rw c.in_ok-push.ensures.items (omega (arith, length_push c.loop-slot.list.items None, c.loop-slot.invariant.0)),
  rw c.in_ok-push.ensures.items (one_more_free c.loop-slot.list.items c.loop-slot.invariant.1),
)
