use Rattle.std.proofs.Common.{rules, tests, subst, List}
use Rattle.std.proofs.lemmas.Iterator.{YieldsList-from_slice, items_from_collect}
use Rattle.std.proofs.lemmas.Iterator.Consumers.{YieldsList-from_filter, YieldsList-from_copied}
use Rattle.std.proofs.lemmas.Result.{IfOk-weaker}
use Rattle.environment_sets.specs.declared.environment.Env.{Env}
use Rattle.environment_sets.specs.declared.environment.TheConstants.{SLOTS}
use Rattle.environment_sets.specs.Lists.{IsRoster}
use Rattle.environment_sets.specs.Members.{members, sets, HasMember}
use Rattle.environment_sets.specs.Sets.{◌⊆◌, is_within}
use Rattle.antichains.proofs.Changes.{roster-left}
use Rattle.antichains.proofs.antichain.Antichain.inside.Goals as goal

pub returns : goal.returns
returns c =
    let mask = members c.args.mask.now in
    let list = c.self.inside.signed.list.items in
    IfOk-weaker c.collect.result _ _ (λ found same.
    let P : List Env → Type 0 = λ es. IsRoster (λ E. HasMember es E × (E ⊆ mask)) (sets found.items) in
    subst P c.self.view_is (roster-left list found.items mask same c.self.invariant.0.0))
    (items_from_collect c.collect.result c.collect.ensures.ran (YieldsList-from_filter _ (λ (e : Env). is_within SLOTS (members e) mask) (YieldsList-from_copied (YieldsList-from_slice list (cc))) c.filter.ensures.closure (λ x b q k. search (rules, tests))))
