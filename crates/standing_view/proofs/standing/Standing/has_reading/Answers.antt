use Rattle.environment_sets.specs.Lists.{IsIn}
use Rattle.std.proofs.Common.{List, ℕ, sym, subst}
use Rattle.standing_view.specs.Standing.{order_of}
use Rattle.environment_sets.proofs.Membership.{IsIn-right, IsIn-slice_get}
use Rattle.standing_view.proofs.Places.{ordered_are_distinct}
use Rattle.standing_view.proofs.Shown.{beside_at}
use Rattle.standing_view.proofs.standing.Standing.has_reading.Goals as goal

pub has-requires : goal.has-requires
has-requires c =
    let listed : IsIn (order_of c.args.self.now) c.reading_slot.result = IsIn-right c.args.self.now.parts c.args.self.now.slots c.reading_slot.result (IsIn-slice_get c.args.self.now.slots c.args.place c.reading_slot.result c.reading_slot.ensures) in
    let P : List ℕ → Type 0 = λ l. IsIn l c.reading_slot.result in
    c.order-order.ensures.slots.below c.reading_slot.result (subst P (sym c.order-order.ensures.value) listed)

pub returns : goal.returns
returns c = λ cell at. rw (beside_at c.args.self.now.cells c.args.self.now.slots c.args.place cell c.reading_slot.result (ordered_are_distinct c.args.self.now.cells c.order-order.ensures.standing.rising) at c.reading_slot.ensures) c.has.ensures
