use Rattle.std.proofs.Common.{length}
use Rattle.justifications.specs.Woven.{uses_of}
use Rattle.recorded_inferences.specs.Recorded.{GoesFrom}
use Rattle.recorded_inferences.specs.Dropped.{AreLeft}
use Rattle.recorded_inferences.proofs.dropping.drop_uses.Given as goal

abbrev pub invariant-loop-just : goal.invariant-loop-just
invariant-loop-just l = AreLeft (GoesFrom l.fact) l.fn.weave l.weave

abbrev pub decreases-loop-just : goal.decreases-loop-just
decreases-loop-just l = length (uses_of l.weave l.node.place)
