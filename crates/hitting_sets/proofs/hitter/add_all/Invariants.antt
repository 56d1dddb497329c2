use Rattle.std.proofs.Common.{◌≡◌, take}
use Rattle.hitting_sets.proofs.hitter.add_all.Given as goal

abbrev pub invariant-loop-i : goal.invariant-loop-i
invariant-loop-i l = l.levels ≡ take l.i l.conflicts
