use Rattle.std.proofs.Common.{ℕ, List, subst}
use Rattle.environment_sets.specs.Lists.{IsIn}
use Rattle.index_lists.specs.Chains.{keys_in}
use Rattle.index_lists.proofs.Links.{not_itself}
use Rattle.justifications.proofs.links.remove_from.Goals as goal

pub take-requires-clause-free : goal.take-requires-clause-free
take-requires-clause-free c lane head i = not_itself c.args.just.place (keys_in c.args.chains.now lane head) (subst (λ (l : List ℕ). IsIn l c.args.just.place) (c.unlink_all.ensures.keys lane head) i)
