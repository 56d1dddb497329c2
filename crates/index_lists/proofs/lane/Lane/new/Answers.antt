use Rattle.std.proofs.Common.{[], refl}
use Rattle.index_lists.proofs.Links.{none_is_no_some, relinked}
use Rattle.index_lists.proofs.lane.Lane.new.Goals as goal

pub invariant_of-result : goal.invariant_of-result
invariant_of-result c = rw (c.new.ensures.items, c.new-2.ensures.items) ((relinked [] [] (λ h. []) (λ h. tt) (λ h. refl) (λ k p at. none_is_no_some p at)).linked)
