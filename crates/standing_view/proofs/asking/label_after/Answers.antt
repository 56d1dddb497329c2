use Rattle.std.proofs.Common.{ℕ, IsTrue, List, sym, subst}
use Rattle.std.specs.Option.{option_map, option_copied}
use Rattle.environment_sets.specs.Members.{members, sets}
use Rattle.environment_sets.specs.Orders.{ListsAll}
use Rattle.environment_sets.specs.Sets.{Set}
use Rattle.assumption_slots.specs.Slots.{stock}
use Rattle.label_engine.specs.Engine.{label_of}
use Rattle.standing_view.proofs.Asked.{inside_listed, next_in_label, next_standing, left_standing}
use Rattle.standing_view.proofs.asking.label_after.Goals as goal

pub label_after-requires-clause-mask_listed : goal.label_after-requires-clause-mask_listed
label_after-requires-clause-mask_listed c =
    let E : Set ℕ = members c.mask-mask.result in
    subst (λ (xs : List ℕ). ListsAll xs E) (sym c.order.ensures.value) (inside_listed c.args.standing.now E (λ k h. subst (λ (M : Set ℕ). IsTrue (M k)) c.mask-mask.ensures h))

pub label_after-requires-clause-last_listed : goal.label_after-requires-clause-last_listed
label_after-requires-clause-last_listed c = λ x is.
    subst (λ (xs : List ℕ). ListsAll xs (members x.now)) (sym c.order.ensures.value) (inside_listed c.args.standing.now (members x.now) (c.requires.inside x is))

pub returns-clause-next : goal.returns-clause-next
returns-clause-next c = λ P parked r.
    let last = option_map members (option_copied c.args.last) in
    let next = option_map members c.label_after.result in
    let S = stock c.args.engine.now.slots in
    next_in_label S c.args.standing.now P parked r c.args.fact last next (next_standing c.args.standing.now c.order.result.now (members c.mask-mask.result) c.order.ensures.value c.mask-mask.ensures S c.args.fact last next c.label_after.ensures.next)

pub returns-clause-falls : goal.returns-clause-falls
returns-clause-falls c =
    left_standing c.args.standing.now c.order.result.now (members c.mask-mask.result) c.order.ensures.value c.mask-mask.ensures (sets (label_of c.args.engine.now.kept c.args.fact)) (option_map members (option_copied c.args.last)) c.label_after.result c.label_after.ensures.falls

pub returns-clause-slots : goal.returns-clause-slots
returns-clause-slots c =
    next_standing c.args.standing.now c.order.result.now (members c.mask-mask.result) c.order.ensures.value c.mask-mask.ensures (stock c.args.engine.now.slots) c.args.fact (option_map members (option_copied c.args.last)) (option_map members c.label_after.result) c.label_after.ensures.next
