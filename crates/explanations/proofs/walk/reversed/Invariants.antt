use Rattle.std.proofs.Common.{◌≡◌, reverse, drop}
use Rattle.explanations.proofs.walk.reversed.Given as goal

abbrev pub invariant-loop-i : goal.invariant-loop-i
invariant-loop-i l = l.turned ≡ reverse (drop l.i l.steps)
