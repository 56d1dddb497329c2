use Rattle.std.proofs.Common.{◌≡◌, take}
use Rattle.hitting_sets.proofs.levels.Levels.common.Given as goal

abbrev pub invariant-loop-i : goal.invariant-loop-i
invariant-loop-i l = take l.i l.self ≡ take l.i l.conflicts
