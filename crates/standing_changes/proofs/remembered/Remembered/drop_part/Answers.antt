use Rattle.std.proofs.Common.{◌≡◌, ℕ, ◌-◌, Some, subst}
use Rattle.std.specs.List.{slice_get}
use Rattle.assumption_slots.specs.Slots.{stock}
use Rattle.standing_view.specs.Standing.{Stands}
use Rattle.standing_changes.proofs.Dropped.{last_below, last_remembered, last_dropped}
use Rattle.standing_changes.proofs.remembered.Remembered.drop_part.Goals as goal

pub forget-requires-clause-below : goal.forget-requires-clause-below
forget-requires-clause-below c =
    let st : Stands = c.args.self.now.standing in
    let some = c.requires.stands in
    let Q : ℕ → Type 0 = λ n. slice_get st.parts (n - 1) ≡ Some c.part_slot-slot.result in
    last_below (stock c.args.self.now.engine.slots) st some.present some.parked some.stands c.part_slot-slot.result (subst Q c.count_parts.ensures c.part_slot-slot.ensures)

pub forget-requires-clause-remembered : goal.forget-requires-clause-remembered
forget-requires-clause-remembered c =
    let st : Stands = c.args.self.now.standing in
    let some = c.requires.stands in
    let Q : ℕ → Type 0 = λ n. slice_get st.parts (n - 1) ≡ Some c.part_slot-slot.result in
    last_remembered (stock c.args.self.now.engine.slots) st some.present some.parked some.stands c.part_slot-slot.result (subst Q c.count_parts.ensures c.part_slot-slot.ensures)

pub returns : goal.returns
returns c =
    let st : Stands = c.args.self.now.standing in
    let Q : ℕ → Type 0 = λ n. slice_get st.parts (n - 1) ≡ Some c.part_slot-slot.result in
    λ s parked r.
    rw c.drop_part.ensures (last_dropped (stock c.args.self.now.engine.slots) st s parked r c.part_slot-slot.result (subst Q c.count_parts.ensures c.part_slot-slot.ensures) (stock c.forget.new.self.slots) c.forget.ensures.forgets)
