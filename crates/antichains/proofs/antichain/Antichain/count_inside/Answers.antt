use Rattle.std.proofs.Common.{◌≡◌, ℕ, rules, tests, refl, subst, List, length}
use Rattle.std.specs.List.{filter}
use Rattle.std.proofs.lemmas.Iterator.{YieldsList-from_slice}
use Rattle.std.proofs.lemmas.Iterator.Consumers.{YieldsList-from_filter, count_from_yields_List}
use Rattle.environment_sets.specs.declared.environment.Env.{Env}
use Rattle.environment_sets.specs.declared.environment.TheConstants.{SLOTS}
use Rattle.environment_sets.specs.Families.{AreInside}
use Rattle.environment_sets.specs.Members.{members, HasMember}
use Rattle.environment_sets.specs.Sets.{is_within}
use Rattle.antichains.proofs.Changes.{inside-left, inside-all}
use Rattle.antichains.proofs.antichain.Antichain.count_inside.Goals as goal

pub returns : goal.returns
returns c =
    let mask = members c.args.mask.now in
    let list = c.self.inside.signed.list.items in
    let P : List Env → Type 0 = λ es. AreInside (HasMember es) mask c.count.result in
    subst P c.self.view_is (inside-left list (filter (λ (e : Env). is_within SLOTS (members e) mask) list) mask c.count.result refl
    (count_from_yields_List c.filter.result _ c.count.ensures.ran (YieldsList-from_filter _ (λ (e : Env). is_within SLOTS (members e) mask) (YieldsList-from_slice list (cc)) c.filter.ensures.closure (λ x b q k. search (rules, tests))))
    c.self.invariant.0.0)

pub returns-then-is_subset : goal.returns-then-is_subset
returns-then-is_subset c =
    let mask = members c.args.mask.now in
    let list = c.self.inside.signed.list.items in
    let P : List Env → Type 0 = λ es. AreInside (HasMember es) mask c.len.result in
    let Q : ℕ → Type 0 = λ n. AreInside (HasMember list) mask n in
    let long : length list ≡ c.len.result = search rules in
    subst P c.self.view_is (subst Q long (inside-all list (members c.self.inside.reach) mask c.self.invariant.0.0 c.self.invariant.2 (c.is_subset.ensures.subset.0 c.if-is_subset.true)))
