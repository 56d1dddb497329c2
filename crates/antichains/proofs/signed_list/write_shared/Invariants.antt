use Rattle.antichains.specs.Signed.{AreSharedBelow}
use Rattle.antichains.proofs.signed_list.write_shared.Given as goal

abbrev pub invariant-loop-place : goal.invariant-loop-place
invariant-loop-place l = AreSharedBelow l.signatures l.shared l.place
