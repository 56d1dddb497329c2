use Rattle.std.proofs.Common.{length}
use Rattle.index_lists.specs.Chains.{keys_in}
use Rattle.justifications.specs.Kept.{AreDropping}
use Rattle.justifications.proofs.links.drop_all_in.Given as goal

abbrev pub invariant-loop-just : goal.invariant-loop-just
invariant-loop-just l = AreDropping l.fn.chains l.chains l.lane l.head

abbrev pub decreases-loop-just : goal.decreases-loop-just
decreases-loop-just l = length (keys_in l.chains l.lane l.head)
