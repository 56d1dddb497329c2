use Rattle.environment_sets.specs.Signatures.{signature}
use Rattle.antichains.specs.Signed.{AreWritten}
use Rattle.antichains.proofs.signed_list.write_signatures.Given as goal

abbrev pub invariant-loop-place : goal.invariant-loop-place
invariant-loop-place l = AreWritten signature l.list l.signatures l.place
