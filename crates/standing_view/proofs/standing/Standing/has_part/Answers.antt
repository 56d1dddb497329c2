use Rattle.environment_sets.specs.Lists.{IsIn}
use Rattle.std.proofs.Common.{List, ℕ, sym, subst}
use Rattle.standing_view.specs.Standing.{order_of}
use Rattle.environment_sets.proofs.Membership.{IsIn-left, IsIn-slice_get}
use Rattle.standing_view.proofs.standing.Standing.has_part.Goals as goal

pub has-requires : goal.has-requires
has-requires c =
    let listed : IsIn (order_of c.args.self.now) c.part_slot.result = IsIn-left c.args.self.now.parts c.args.self.now.slots c.part_slot.result (IsIn-slice_get c.args.self.now.parts c.args.place c.part_slot.result c.part_slot.ensures) in
    let P : List ℕ → Type 0 = λ l. IsIn l c.part_slot.result in
    c.order-order.ensures.slots.below c.part_slot.result (subst P (sym c.order-order.ensures.value) listed)

pub returns : goal.returns
returns c = rw c.part_slot.ensures c.has.ensures
