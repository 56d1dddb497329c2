use Rattle.std.proofs.Common.{◌≡◌, ◌+◌, ◌++◌, length, map, take}
use Rattle.proof_check.specs.Ordered.{AreInOrder}
use Rattle.proof_check.specs.Turns.{at_round, HasAll}
use Rattle.proof_check.proofs.closing.hold.Given as goal

abbrev pub invariant-loop-i : goal.invariant-loop-i
invariant-loop-i l = record {
  listed : l.timed.items ≡ l.fn.timed.items ++ map (at_round l.round) (take l.i l.found);
  held : HasAll (take l.i l.found) l.fn.held l.held;
  long : length l.held ≡ length l.fn.held + l.i;
  order : AreInOrder l.held;
}
