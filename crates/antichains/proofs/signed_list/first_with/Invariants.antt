use Rattle.std.proofs.Common.{IsTrue}
use Rattle.environment_sets.specs.Members.{members}
use Rattle.antichains.specs.Signed.{NoneBefore}
use Rattle.antichains.proofs.signed_list.first_with.Given as goal

abbrev pub invariant-loop-place : goal.invariant-loop-place
invariant-loop-place l = NoneBefore (λ e. IsTrue (members e l.slot)) l.list l.place
