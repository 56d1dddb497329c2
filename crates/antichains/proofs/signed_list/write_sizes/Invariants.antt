use Rattle.antichains.specs.Signed.{size_of}
use Rattle.antichains.specs.Signed.{AreWritten}
use Rattle.antichains.proofs.signed_list.write_sizes.Given as goal

abbrev pub invariant-loop-place : goal.invariant-loop-place
invariant-loop-place l = AreWritten size_of l.list l.sizes l.place
