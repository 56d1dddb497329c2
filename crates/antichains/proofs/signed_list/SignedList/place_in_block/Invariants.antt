use Rattle.environment_sets.specs.Sets.{◌⊆◌}
use Rattle.environment_sets.specs.Members.{members}
use Rattle.antichains.proofs.Blocks.{NoneBehindIn}
use Rattle.antichains.proofs.signed_list.SignedList.place_in_block.Given as goal

abbrev pub invariant-loop-place : goal.invariant-loop-place
invariant-loop-place l = NoneBehindIn (λ e. members e ⊆ members l.env) l.self.list.items l.block l.place
