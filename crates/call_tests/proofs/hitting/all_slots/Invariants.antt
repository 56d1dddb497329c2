use Rattle.call_tests.proofs.Rising.{ListsBelow}
use Rattle.call_tests.proofs.hitting.all_slots.Given as goal

abbrev pub invariant-loop-slot : goal.invariant-loop-slot
invariant-loop-slot l = ListsBelow l.slot l.order.items
