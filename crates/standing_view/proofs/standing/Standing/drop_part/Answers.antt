use Rattle.std.proofs.Common.{◌≡◌, ℕ, ◌+◌, ◌-◌, ◌<◌, ◌≤◌, List, length, take, drop, get_or, Some, refl, sym, ap, subst, ◌∙◌, arith}
use Rattle.std.specs.List.{slice_get}
use Rattle.std.proofs.lemmas.List.{length-take-le, take-append-drop}
use Rattle.std.proofs.lemmas.List.Edits.{length-remove}
use Rattle.std.proofs.lemmas.Option.{slice_get_read}
use Rattle.circuit_model.specs.declared.model.Cell.{Cell}
use Rattle.environment_sets.specs.declared.environment.TheConstants.{SLOTS}
use Rattle.environment_sets.specs.Lists.{IsIn}
use Rattle.environment_sets.specs.Members.{members}
use Rattle.environment_sets.specs.Sets.{Set, only, ◌∖◌}
use Rattle.environment_sets.proofs.Membership.{IsIn-slice_get}
use Rattle.standing_view.specs.declared.standing.Standing.TheInside.{Inside}
use Rattle.standing_view.specs.Kept.{stands_of, IsKept}
use Rattle.standing_view.specs.Standing.{Stands, IsStanding, parts_of, readings_of}
use Rattle.standing_view.proofs.Kept.{stands}
use Rattle.standing_view.proofs.Shrinking.{part_dropped, part_out, part_stands_no_more}
use Rattle.standing_view.proofs.standing.Standing.drop_part.Goals as goal

module _ (s : Inside) (kept : IsKept s) (now : Stands) (is : stands_of s ≡ now) (some : 0 < length now.parts) (slot : ℕ) (read : slot ≡ get_or s.order.items (s.parts - 1) slot) where
  abbrev order : List ℕ
  order = s.order.items

  abbrev cells : List Cell
  cells = s.cells.items

  abbrev n : ℕ
  n = s.parts - 1

  parts_is : n + 1 ≡ s.parts
  parts_is =
      let count : length (take s.parts order) ≡ s.parts = length-take-le s.parts order kept.count in
      let seen : length (take s.parts order) ≡ length now.parts = ap (λ (st : Stands). length st.parts) is in
      omega arith

  low : n + 1 ≤ length order
  low = let count : s.parts ≤ length order = kept.count in omega (arith, parts_is)

  at : slice_get order n ≡ Some slot
  at = slice_get_read order (length order) n slot refl (omega (arith, low)) read

  standing : IsStanding (stands (take (n + 1) order) cells (drop (n + 1) order))
  standing = let Q : ℕ → Type 0 = λ m. IsStanding (stands (take m order) cells (drop m order)) in subst Q (sym parts_is) kept.standing

  components : members s.components ≡ parts_of (stands (take (n + 1) order) cells (drop (n + 1) order))
  components = let Q : ℕ → Type 0 = λ m. members s.components ≡ parts_of (stands (take m order) cells (drop m order)) in subst Q (sym parts_is) kept.components

  measurements : members s.measurements ≡ readings_of (stands (take (n + 1) order) cells (drop (n + 1) order))
  measurements = let Q : ℕ → Type 0 = λ m. members s.measurements ≡ readings_of (stands (take m order) cells (drop m order)) in subst Q (sym parts_is) kept.measurements

  slot_low : slot < SLOTS
  slot_low = let P : List ℕ → Type 0 = λ xs. IsIn xs slot in standing.order.below slot (subst P (sym (take-append-drop (n + 1) order)) (IsIn-slice_get order n slot at))

pub without-self-inside-requires : goal.without-self-inside-requires
without-self-inside-requires c = slot_low c.self.inside c.self.invariant c.args.self.now c.self.view_is c.requires c.remove-slot.result c.remove-slot.ensures.value

pub invariant_of-self : goal.invariant_of-self
invariant_of-self c =
    let s = c.self.inside in
    let slot : ℕ = c.remove-slot.result in
    let n : ℕ = s.parts - 1 in
    let order : List ℕ = s.order.items in
    let cells : List Cell = s.cells.items in
    let after : List ℕ = c.remove-slot.new.self.items in
    let fits = low s c.self.invariant c.args.self.now c.self.view_is c.requires slot c.remove-slot.ensures.value in
    let there = at s c.self.invariant c.args.self.now c.self.view_is c.requires slot c.remove-slot.ensures.value in
    let stood = standing s c.self.invariant c.args.self.now c.self.view_is c.requires slot c.remove-slot.ensures.value in
    let of_parts = components s c.self.invariant c.args.self.now c.self.view_is c.requires slot c.remove-slot.ensures.value in
    let of_readings = measurements s c.self.invariant c.args.self.now c.self.view_is c.requires slot c.remove-slot.ensures.value in
    let same = part_dropped order after cells n slot fits there c.remove-slot.ensures.items in
    let long : length after + 1 ≡ length order = ap (λ (xs : List ℕ). length xs + 1) c.remove-slot.ensures.items ∙ length-remove order n (omega (arith, fits)) in
    record {
      standing = subst IsStanding (sym same) (part_stands_no_more order after cells n slot fits there c.remove-slot.ensures.items stood);
      count = omega (arith, fits, long);
      components = c.without-self-inside.ensures ∙ (ap (λ (M : Set ℕ). M ∖ only slot) of_parts ∙ (part_out order after cells n slot fits there c.remove-slot.ensures.items stood ∙ ap parts_of (sym same)));
      measurements = of_readings ∙ ap readings_of (sym same);
      room = omega (arith, c.self.invariant.room, c.remove-slot.ensures.capacity);
      cells_room = c.self.invariant.cells_room;
    }
