use Rattle.std.proofs.Common.{refl, inr}
use Rattle.environment_sets.proofs.Listings.{IsIn-front, IsIn-last}
use Rattle.inference_search.proofs.search.add_other.Goals as goal

pub returns-clause-stays : goal.returns-clause-stays
returns-clause-stays c g h = rw c.in_ok-push.ensures.items (IsIn-front _ _ _ h)

pub returns-clause-other : goal.returns-clause-other
returns-clause-other c = inr (rw c.in_ok-push.ensures.items (IsIn-last _ _ _ refl))
