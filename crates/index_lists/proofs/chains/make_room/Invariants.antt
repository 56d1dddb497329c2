use Rattle.index_lists.proofs.Keeping.{AreWider}
use Rattle.index_lists.proofs.chains.make_room.Given as goal

abbrev pub invariant-loop-place : goal.invariant-loop-place
invariant-loop-place l = AreWider l.fn.lanes l.lanes l.count l.place
