use Rattle.std.proofs.Common.{◌≡◌, length, Some}
use Rattle.justifications.specs.Woven.{made_by}
use Rattle.recorded_inferences.specs.Dropped.{AreLeft}
use Rattle.recorded_inferences.proofs.dropping.drop_made_by.Given as goal

abbrev pub invariant-loop-just : goal.invariant-loop-just
invariant-loop-just l = AreLeft (λ i. i.maker ≡ Some l.slot) l.fn.weave l.weave

abbrev pub decreases-loop-just : goal.decreases-loop-just
decreases-loop-just l = length (made_by l.weave l.slot)
