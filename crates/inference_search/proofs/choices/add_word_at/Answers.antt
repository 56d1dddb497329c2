use Rattle.std.proofs.Common.{refl}
use Rattle.environment_sets.proofs.Listings.{IsIn-front, IsIn-last}
use Rattle.inference_search.proofs.choices.add_word_at.Goals as goal

pub returns-then-eq-clause-stays : goal.returns-then-eq-clause-stays
returns-then-eq-clause-stays c o h = rw c.in_ok-push.ensures.items (IsIn-front _ _ _ h)

pub returns-then-eq-clause-word : goal.returns-then-eq-clause-word
returns-then-eq-clause-word c e = rw c.in_ok-push.ensures.items (IsIn-last _ _ _ refl)
