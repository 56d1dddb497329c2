use Rattle.environment_sets.specs.Sets.{◌⊆◌}
use Rattle.environment_sets.specs.Members.{members}
use Rattle.antichains.specs.Signed.{NoneBefore}
use Rattle.antichains.proofs.signed_list.SignedList.first_superset.Given as goal

abbrev pub invariant-loop-place : goal.invariant-loop-place
invariant-loop-place l = NoneBefore (λ e. members l.env ⊆ members e) l.self.list.items l.place
