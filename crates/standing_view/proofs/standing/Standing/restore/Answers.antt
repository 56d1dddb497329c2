use Rattle.std.proofs.Common.{◌≡◌, ℕ, ◌+◌, ◌<◌, ◌≤◌, List, length, drop, sym, ap, subst, ◌∙◌, arith}
use Rattle.std.specs.List.{insert}
use Rattle.std.proofs.lemmas.List.{length-drop}
use Rattle.std.proofs.lemmas.List.Edits.{length-insert}
use Rattle.circuit_model.specs.declared.model.Cell.{Cell}
use Rattle.circuit_model.specs.declared.limits.TheConstants.{MOST_READINGS}
use Rattle.environment_sets.specs.Lists.{IsIn}
use Rattle.environment_sets.specs.Sets.{Set, only, ◌∪◌}
use Rattle.standing_view.specs.Kept.{stands_of}
use Rattle.standing_view.specs.Standing.{Stands, IsStanding, order_of, parts_of, readings_of, place_among, with_reading_at}
use Rattle.standing_view.proofs.Kept.{reading_stands, reading_put, place-within}
use Rattle.standing_view.proofs.Masks.{reading_among}
use Rattle.standing_view.proofs.standing.Standing.restore.Goals as goal

pub invariant_of-self : goal.invariant_of-self
invariant_of-self c =
    let before : Stands = stands_of c.self.inside in
    let order : List ℕ = c.self.inside.order.items in
    let cells : List Cell = c.self.inside.cells.items in
    let parts : ℕ = c.self.inside.parts in
    let slot : ℕ = c.args.slot in
    let cell : Cell = c.args.cell in
    let place : c.place_for-place.result ≡ place_among cell cells = c.place_for-place.ensures.place ∙ ap (λ (ds : List Cell). place_among cell ds) c.deref.ensures.value in
    let slots_put : c.insert-2.new.self.items ≡ insert order (parts + place_among cell cells) slot = c.in-Ok-insert.ensures.items ∙ ap (λ (i : ℕ). insert order (parts + i) slot) place in
    let cells_put : c.insert.new.self.items ≡ insert cells (place_among cell cells) cell = c.in-Ok.ensures.items ∙ ap (λ (i : ℕ). insert cells i cell) place in
    let free = subst (λ (st : Stands). IsIn (order_of st) slot → ⊥) (sym c.self.view_is) c.requires.free in
    let new = subst (λ (st : Stands). IsIn st.cells cell → ⊥) (sym c.self.view_is) c.requires.unmeasured in
    let room = subst (λ (st : Stands). length st.cells < MOST_READINGS) (sym c.self.view_is) c.requires.room in
    let put = reading_put order c.insert-2.new.self.items cells parts c.self.invariant.count slot c.insert.new.self.items cell slots_put cells_put in
    let within : place_among cell cells ≤ length cells = place-within cell cells in
    let as_many : length (drop parts order) ≡ length cells = c.self.invariant.standing.as_many in
    let low : parts + place_among cell cells ≤ length order = omega (arith, length-drop parts order, c.self.invariant.count) in
    let long : length c.insert-2.new.self.items ≡ length order + 1 = ap (λ (xs : List ℕ). length xs) slots_put ∙ length-insert order (parts + place_among cell cells) slot low in
    record {
      standing = subst (λ (st : Stands). IsStanding st) (sym put) (reading_stands before c.self.invariant.standing slot c.requires.below free cell new room);
      count = omega arith;
      components = c.self.invariant.components ∙ ap parts_of (sym put);
      measurements = c.with-self-inside.ensures ∙ (ap (λ (M : Set ℕ). M ∪ only slot) c.self.invariant.measurements ∙ (reading_among before slot cell ∙ ap readings_of (sym put)));
      room = omega arith;
      cells_room = omega arith;
    }

pub returns : goal.returns
returns c =
    let order : List ℕ = c.self.inside.order.items in
    let cells : List Cell = c.self.inside.cells.items in
    let parts : ℕ = c.self.inside.parts in
    let slot : ℕ = c.args.slot in
    let cell : Cell = c.args.cell in
    let place : c.place_for-place.result ≡ place_among cell cells = c.place_for-place.ensures.place ∙ ap (λ (ds : List Cell). place_among cell ds) c.deref.ensures.value in
    let slots_put : c.insert-2.new.self.items ≡ insert order (parts + place_among cell cells) slot = c.in-Ok-insert.ensures.items ∙ ap (λ (i : ℕ). insert order (parts + i) slot) place in
    let cells_put : c.insert.new.self.items ≡ insert cells (place_among cell cells) cell = c.in-Ok.ensures.items ∙ ap (λ (i : ℕ). insert cells i cell) place in
    reading_put order c.insert-2.new.self.items cells parts c.self.invariant.count slot c.insert.new.self.items cell slots_put cells_put
    ∙ ap (λ (st : Stands). with_reading_at slot cell st) c.self.view_is
