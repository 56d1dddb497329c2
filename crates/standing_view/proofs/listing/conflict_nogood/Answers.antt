use Rattle.std.proofs.Common.{◌≡◌, ℕ, List, Option, sym, ap, subst, ◌∙◌}
use Rattle.std.specs.Option.{option_map}
use Rattle.environment_sets.specs.declared.environment.Env.{Env}
use Rattle.environment_sets.specs.Members.{members}
use Rattle.environment_sets.specs.Orders.{ListsAll}
use Rattle.environment_sets.specs.Sets.{Set, ◌∪◌}
use Rattle.assumption_slots.specs.Slots.{stock}
use Rattle.standing_view.specs.Standing.{order_of}
use Rattle.standing_view.proofs.Asked.{inside_listed}
use Rattle.standing_view.proofs.Conflicting.{with_slots, with_slots_inside}
use Rattle.standing_view.proofs.Nogoods.{GivesFirst, gives_first, some_of_mapped, some_nogood, first_nogood, nogood_inside}
use Rattle.standing_view.proofs.listing.conflict_nogood.Goals as goal

pub nogood_after-requires-clause-mask_listed : goal.nogood_after-requires-clause-mask_listed
nogood_after-requires-clause-mask_listed c =
    let st = c.args.standing.now in
    let E : Set ℕ = members c.args.conflict.now in
    let same : members c.union-mask.result ≡ with_slots st E = c.union-mask.ensures ∙ ap (λ (F : Set ℕ). E ∪ F) c.readings.ensures in
    let listed : ListsAll (order_of st) (members c.union-mask.result) = subst (ListsAll (order_of st)) (sym same) (inside_listed st (with_slots st E) (with_slots_inside st E c.requires.conflict.inside)) in
    let P : List ℕ → Type 0 = λ order. ListsAll order (members c.union-mask.result) in
    subst P (sym c.order.ensures.value) listed

pub unwrap-requires : goal.unwrap-requires
unwrap-requires c =
    let S = stock c.args.engine.now.slots in
    let st = c.args.standing.now in
    let E : Set ℕ = members c.args.conflict.now in
    let is = c.requires.conflict in
    let next = option_map members c.nogood_after.result in
    let gives : GivesFirst S st E next = gives_first S st E (members c.union-mask.result) c.order.result.now next (c.union-mask.ensures ∙ ap (λ (F : Set ℕ). E ∪ F) c.readings.ensures) c.order.ensures.value c.nogood_after.ensures.next in
    some_of_mapped members c.nogood_after.result (some_nogood S st is.present is.parked is.stands E is.inside is.conflict next gives)

pub returns-clause-first : goal.returns-clause-first
returns-clause-first c = λ P parked r conflict.
    let S = stock c.args.engine.now.slots in
    let st = c.args.standing.now in
    let E : Set ℕ = members c.args.conflict.now in
    let next = option_map members c.nogood_after.result in
    let gives : GivesFirst S st E next = gives_first S st E (members c.union-mask.result) c.order.result.now next (c.union-mask.ensures ∙ ap (λ (F : Set ℕ). E ∪ F) c.readings.ensures) c.order.ensures.value c.nogood_after.ensures.next in
    let Q : Option Env → Type 0 = λ o. GivesFirst S st E (option_map members o) in
    first_nogood S st P parked r E c.requires.conflict.inside conflict (members c.unwrap.result) (subst Q c.unwrap.ensures gives)

pub returns-clause-inside : goal.returns-clause-inside
returns-clause-inside c =
    let S = stock c.args.engine.now.slots in
    let st = c.args.standing.now in
    let E : Set ℕ = members c.args.conflict.now in
    let is = c.requires.conflict in
    let next = option_map members c.nogood_after.result in
    let gives : GivesFirst S st E next = gives_first S st E (members c.union-mask.result) c.order.result.now next (c.union-mask.ensures ∙ ap (λ (F : Set ℕ). E ∪ F) c.readings.ensures) c.order.ensures.value c.nogood_after.ensures.next in
    let Q : Option Env → Type 0 = λ o. GivesFirst S st E (option_map members o) in
    nogood_inside S st is.present is.parked is.stands E is.inside is.conflict (members c.unwrap.result) (subst Q c.unwrap.ensures gives)
