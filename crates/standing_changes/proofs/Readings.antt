-- The place of a measurement among the others.
use Rattle.std.proofs.Common.{◌≡◌, ℕ, zero, suc, ◌+◌, ◌<◌, ◌≤◌, true, false, List, [], ◌∷◌, length, map, Option, Some, None, refl, sym, ap, ap₂, subst, ◌∙◌, arith}
use Rattle.std.specs.List.{remove, slice_get}
use Rattle.std.proofs.lemmas.Bool.{cond-true, cond-false}
use Rattle.std.proofs.lemmas.List.{length-map}
use Rattle.circuit_model.specs.Closure.{fact}
use Rattle.circuit_model.specs.declared.limits.TheConstants.{MOST_READINGS}
use Rattle.circuit_model.specs.declared.model.Cell.{Cell}
use Rattle.circuit_model.specs.declared.model.Fact.{Fact}
use Rattle.circuit_model.specs.Present.{PresentView, is_cell, reading_in, with_reading, without_reading, with_standing, without_standing}
use Rattle.circuit_model.proofs.Readings.{Measured, measured_at, reading_in-with_reading, length-with_reading}
use Rattle.circuit_model.proofs.SameCells.{cell_itself, before_apart}
use Rattle.environment_sets.specs.Lists.{IsIn}
use Rattle.environment_sets.proofs.Membership.{IsIn-slice_get, map-IsIn}
use Rattle.standing_view.specs.Standing.{AreInOrder}

-- the cells of the readings
abbrev pub cells_of : List Fact → List Cell
cells_of readings = map (λ f. f.cell) readings

-- the reading at the place is of the cell, and without it the readings are those without that of the cell
pub record IsReadingAt (readings : List Fact) (c : Cell) (v place : ℕ) : Type 0 where
  pub there : slice_get readings place ≡ Some (fact c v)
  pub rest : remove readings place ≡ without_reading c readings

first_reading : (f : Fact) (c : Cell) (v : ℕ) (o : Option ℕ) → is_cell f.cell c ≡ true → f.cell ≡ c → reading_in (f ∷ []) c ≡ o → o ≡ Some v → Some f ≡ Some (fact c v)
first_reading f c v o here cell at is =
    let value : Some f.value ≡ Some v = sym (cond-true (is_cell f.cell c) (Some f.value) None here) ∙ (at ∙ is) in
    let word : f.value ≡ v = cc in
    ap₂ (λ (c : Cell) (v : ℕ). Some (fact c v)) cell word

pub reading_place : (readings : List Fact) (c : Cell) (v : ℕ) → AreInOrder (cells_of readings) → (place : ℕ) → slice_get (cells_of readings) place ≡ Some c → reading_in readings c ≡ Some v → IsReadingAt readings c v place
reading_place [] c v rising place at is = absurd (cc)
reading_place (f ∷ readings) c v rising zero at is =
    let cell : f.cell ≡ c = cc in
    let here : is_cell f.cell c ≡ true = subst (λ (d : Cell). is_cell f.cell d ≡ true) cell (cell_itself f.cell) in
    let one : reading_in (f ∷ []) c ≡ Some f.value = cond-true (is_cell f.cell c) (Some f.value) None here in
    let word : Some f.value ≡ Some v = sym (cond-true (is_cell f.cell c) (Some f.value) (reading_in readings c) here) ∙ is in
    record {
      there = first_reading f c v (Some f.value) here cell one word;
      rest = sym (cond-true (is_cell f.cell c) readings (f ∷ without_reading c readings) here);
    }
reading_place (f ∷ readings) c v rising (suc place) at is =
    let apart : is_cell f.cell c ≡ false = before_apart f.cell c (rising.0 c (IsIn-slice_get (cells_of readings) place c at)) in
    let later : reading_in readings c ≡ Some v = sym (cond-false (is_cell f.cell c) (Some f.value) (reading_in readings c) apart) ∙ is in
    let r : IsReadingAt readings c v place = reading_place readings c v rising.1 place at later in
    record {
      there = r.there;
      rest = ap (λ (rest : List Fact). f ∷ rest) r.rest ∙ sym (cond-false (is_cell f.cell c) readings (f ∷ without_reading c readings) apart);
    }

-- a measured cell is one of the cells
pub cell_listed : (readings : List Fact) (c : Cell) (v : ℕ) → reading_in readings c ≡ Some v → IsIn (cells_of readings) c
cell_listed readings c v is =
    let m : Measured readings c v = measured_at readings c v is in
    subst (λ (d : Cell). IsIn (cells_of readings) d) m.3 (map-IsIn (λ (f : Fact). f.cell) readings m.1 (IsIn-slice_get readings m.0 m.1 m.2))

-- a cell that is none of the cells is not measured
pub not_listed : (readings : List Fact) (c : Cell) → (IsIn (cells_of readings) c → ⊥) → reading_in readings c ≡ None
not_listed readings c out = elim (reading_in readings c) as (λ o. reading_in readings c ≡ o → reading_in readings c ≡ None) [ None ↦ λ e. e | Some v ↦ λ e. absurd (out (cell_listed readings c v e)) ] refl

module _ (t : PresentView) (f : Fact) (free : reading_in (without_standing f.cell t).readings f.cell ≡ None) (listed : with_standing f (without_standing f.cell t) ≡ t) where
  -- a measurement that was put among the others is there
  pub measured_there : reading_in t.readings f.cell ≡ Some f.value
  measured_there =
      let rest : List Fact = without_reading f.cell t.readings in
      let at : reading_in (with_reading f rest) f.cell ≡ Some f.value = reading_in-with_reading f rest f.cell free ∙ cond-true (is_cell f.cell f.cell) (Some f.value) (reading_in rest f.cell) (cell_itself f.cell) in
      let P : PresentView → Type 0 = λ u. reading_in u.readings f.cell ≡ Some f.value in
      subst P listed at

  -- without it there is room for one more
  pub one_fewer : length t.readings ≤ MOST_READINGS → (cells : List Cell) → cells ≡ cells_of (without_standing f.cell t).readings → length cells < MOST_READINGS
  one_fewer most cells are =
      let rest : List Fact = without_reading f.cell t.readings in
      let n : length cells ≡ length rest = ap (λ (cs : List Cell). length cs) are ∙ length-map rest (λ (g : Fact). g.cell) in
      let more : length (with_reading f rest) ≡ length rest + 1 = length-with_reading f rest in
      let whole : length (with_reading f rest) ≡ length t.readings = ap (λ (u : PresentView). length u.readings) listed in
      omega (arith, n, more, whole, most)
