use Rattle.std.proofs.Common.{◌≡◌, List, length, drop, map, subst, sym, ap, ◌∙◌, IsPermutation}
use Rattle.std.proofs.lemmas.List.{take_at, length-map}
use Rattle.std.proofs.lemmas.List.Sorted.{length_permutation}
use Rattle.std.proofs.lemmas.Result.{IfOk-weaker}
use Rattle.environment_sets.specs.declared.environment.Env.{Env}
use Rattle.environment_sets.specs.Members.{members, sets, HasMember}
use Rattle.environment_sets.specs.Lists.{IsListing}
use Rattle.diagnosis_order.specs.declared.ranks.Ranked.{Ranked}
use Rattle.environment_sets.specs.Costs.{ComesBeforeByCost}
use Rattle.diagnosis_order.specs.Ranks.{ranked_of}
use Rattle.diagnosis_order.proofs.Ranking.{sorted_listing}
use Rattle.diagnosis_order.proofs.ranks.in_order.Goals as goal

permuted : (c : goal.After-drop-ranked) → IsPermutation (map (ranked_of c.args.order.now c.args.costs.now) c.args.environments.now) c.sort.new.ranked
permuted c = subst (λ (rs : List Ranked). IsPermutation rs c.sort.new.ranked) (c.deref_mut.ensures.value ∙ c.in_ok-ranked.ensures) c.sort.ensures.permutation

sorted : (c : goal.After-drop-ranked) → c.deref.result.now ≡ c.sort.new.ranked
sorted c =
    c.deref.ensures.value
    ∙ take_at c.sort.new.ranked (drop (length c.sort.new.ranked) c.in_ok-ranked.ranked.items) c.in_ok-ranked.ranked.len (length_permutation c.deref_mut.result.now c.sort.new.ranked c.sort.ensures.permutation ∙ c.deref_mut.ensures.len)

pub returns-clause-listing : goal.returns-clause-listing
returns-clause-listing c =
    let order = c.args.order.now in
    let es = c.args.environments.now in
    let listed = sorted_listing order (members c.slots_of.result) (λ k h. (c.slots_of.ensures k).0 h) c.args.costs.now es c.sort.new.ranked (λ k h. (c.slots_of.ensures k).1 h) c.requires.listed c.requires.distinct (permuted c) c.sort.ensures.sorted in
    IfOk-weaker c.environments_of.result _ _ (λ found same.
    let P : List Env → Type 0 = λ xs. IsListing (ComesBeforeByCost order c.args.costs.now) (HasMember es) (sets xs) in
    subst P (sym (same ∙ ap (map (λ (r : Ranked). r.set)) (sorted c))) listed) c.environments_of.ensures

pub returns-clause-many : goal.returns-clause-many
returns-clause-many c =
    IfOk-weaker c.environments_of.result _ _ (λ found same.
    ap length (same ∙ ap (map (λ (r : Ranked). r.set)) (sorted c))
    ∙ (length-map c.sort.new.ranked (λ (r : Ranked). r.set) ∙ (length_permutation _ _ (permuted c) ∙ length-map c.args.environments.now (ranked_of c.args.order.now c.args.costs.now)))) c.environments_of.ensures
