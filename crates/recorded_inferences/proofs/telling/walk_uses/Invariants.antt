use Rattle.std.proofs.Common.{length}
use Rattle.justifications.specs.Woven.{name_of, uses_of}
use Rattle.recorded_inferences.proofs.Walking.{AreWalked, rest_of}
use Rattle.recorded_inferences.proofs.telling.walk_uses.Given as goal

abbrev pub invariant-loop-next : goal.invariant-loop-next
invariant-loop-next l = AreWalked l.weave l.node.place l.found.items (name_of l.next)

abbrev pub decreases-loop-next : goal.decreases-loop-next
decreases-loop-next l = length (rest_of (uses_of l.weave l.node.place) (name_of l.next))
