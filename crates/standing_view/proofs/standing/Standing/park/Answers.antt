use Rattle.std.proofs.Common.{◌≡◌, ℕ, ◌+◌, ◌-◌, ◌<◌, List, length, take, drop, Some, sym, ap, subst, ◌∙◌, arith}
use Rattle.std.specs.List.{slice_get}
use Rattle.std.proofs.lemmas.List.{length-drop, take_all}
use Rattle.std.proofs.lemmas.List.Edits.{length-remove}
use Rattle.std.proofs.lemmas.Option.{slice_get_within}
use Rattle.circuit_model.specs.declared.model.Cell.{Cell}
use Rattle.environment_sets.specs.declared.environment.TheConstants.{SLOTS}
use Rattle.environment_sets.specs.Sets.{Set, only, ◌∖◌}
use Rattle.environment_sets.proofs.Membership.{IsIn-right, IsIn-slice_get}
use Rattle.standing_view.specs.declared.standing.Standing.TheInside.{Inside}
use Rattle.standing_view.specs.Kept.{stands_of, IsKept}
use Rattle.standing_view.specs.Standing.{Stands, IsStanding, parts_of, readings_of, without_reading_at}
use Rattle.standing_view.proofs.Shrinking.{reading_dropped, reading_out, reading_stands_no_more, one_reading_place}
use Rattle.standing_view.proofs.standing.Standing.park.Goals as goal

-- the slot is read behind the components
read_behind : (n : ℕ) (xs order : List ℕ) → xs ≡ order → (place slot : ℕ) → slice_get (take (length xs - n) (drop n xs)) place ≡ Some slot → slice_get (drop n order) place ≡ Some slot
read_behind n xs order is place slot at =
    let P : List ℕ → Type 0 = λ ys. slice_get ys place ≡ Some slot in
    subst P (take_all (length xs - n) (drop n xs) (omega (arith, length-drop n xs)) ∙ ap (λ (ys : List ℕ). drop n ys) is) at

slot_low : (s : Inside) → IsKept s → (place slot : ℕ) → slice_get (drop s.parts s.order.items) place ≡ Some slot → slot < SLOTS
slot_low s kept place slot at = kept.standing.order.below slot (IsIn-right (take s.parts s.order.items) (drop s.parts s.order.items) slot (IsIn-slice_get (drop s.parts s.order.items) place slot at))

pub without-self-inside-requires : goal.without-self-inside-requires
without-self-inside-requires c = slot_low c.self.inside c.self.invariant c.place_of_slot-place.result c.args.slot (read_behind c.self.inside.parts c.deref.result.now c.self.inside.order.items c.deref.ensures.value c.place_of_slot-place.result c.args.slot c.place_of_slot-place.ensures)

pub invariant_of-self : goal.invariant_of-self
invariant_of-self c =
    let s = c.self.inside in
    let slot : ℕ = c.args.slot in
    let n : ℕ = s.parts in
    let place : ℕ = c.place_of_slot-place.result in
    let order : List ℕ = s.order.items in
    let cells : List Cell = s.cells.items in
    let after : List ℕ = c.remove.new.self.items in
    let later : List Cell = c.remove-2.new.self.items in
    let there : slice_get (drop n order) place ≡ Some slot = read_behind n c.deref.result.now order c.deref.ensures.value place slot c.place_of_slot-place.ensures in
    let same = reading_dropped order after cells later n place slot c.self.invariant.count there c.remove.ensures.items c.remove-2.ensures.items in
    let within : place < length (drop n order) = slice_get_within (drop n order) place slot there in
    let low : n + place < length order = omega (arith, within, length-drop n order, c.self.invariant.count) in
    let long : length after + 1 ≡ length order = ap (λ (xs : List ℕ). length xs + 1) c.remove.ensures.items ∙ length-remove order (n + place) low in
    record {
      standing = subst IsStanding (sym same) (reading_stands_no_more order after cells later n place slot c.self.invariant.count there c.remove.ensures.items c.remove-2.ensures.items c.self.invariant.standing);
      count = omega (arith, low, long);
      components = c.self.invariant.components ∙ ap parts_of (sym same);
      measurements = c.without-self-inside.ensures ∙ (ap (λ (M : Set ℕ). M ∖ only slot) c.self.invariant.measurements ∙ (reading_out order after cells later n place slot c.self.invariant.count there c.remove.ensures.items c.remove-2.ensures.items c.self.invariant.standing ∙ ap readings_of (sym same)));
      room = omega (arith, c.self.invariant.room, c.remove.ensures.capacity);
      cells_room = omega (arith, c.self.invariant.cells_room, c.remove-2.ensures.capacity);
    }

pub returns : goal.returns
returns c i at =
    let s = c.self.inside in
    let slot : ℕ = c.args.slot in
    let place : ℕ = c.place_of_slot-place.result in
    let there : slice_get (drop s.parts s.order.items) place ≡ Some slot = read_behind s.parts c.deref.result.now s.order.items c.deref.ensures.value place slot c.place_of_slot-place.ensures in
    let same = reading_dropped s.order.items c.remove.new.self.items s.cells.items c.remove-2.new.self.items s.parts place slot c.self.invariant.count there c.remove.ensures.items c.remove-2.ensures.items in
    let P : Stands → Type 0 = λ st. slice_get st.slots i ≡ Some slot in
    same
    ∙ (ap (λ (j : ℕ). without_reading_at j (stands_of s)) (one_reading_place (stands_of s) c.self.invariant.standing place i slot there (subst P (sym c.self.view_is) at))
    ∙ ap (λ (st : Stands). without_reading_at i st) c.self.view_is)
