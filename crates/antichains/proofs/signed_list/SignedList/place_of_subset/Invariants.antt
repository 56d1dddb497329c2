use Rattle.std.proofs.Common.{◌≤◌, length}
use Rattle.environment_sets.specs.Sets.{◌⊆◌}
use Rattle.environment_sets.specs.Members.{members}
use Rattle.antichains.proofs.Blocks.{NoneFromBlock}
use Rattle.antichains.proofs.signed_list.SignedList.place_of_subset.Given as goal

abbrev pub invariant-loop-block : goal.invariant-loop-block
invariant-loop-block l = record {
  within : l.end ≤ length l.self.shared.items;
  passed : NoneFromBlock (λ e. members e ⊆ members l.env) l.self.list.items l.end;
}

abbrev pub decreases-loop-block : goal.decreases-loop-block
decreases-loop-block l = l.end
