-- What an environment of a circuit assumes.
use Rattle.std.proofs.Common.{◌≡◌, ◌↔◌, ℕ, ◌==◌, IsTrue, List, Option, Some, None, slice_get, refl, ap, subst, ◌∙◌}
use Rattle.std.specs.List.{list_any}
use Rattle.std.specs.Option.{option_map}
use Rattle.std.proofs.lemmas.Bool.Decides.{nat_tests}
use Rattle.std.proofs.Common.{arith}
use Rattle.environment_sets.specs.Sets.{Set}
use Rattle.environment_sets.specs.Lists.{IsIn}
use Rattle.environment_sets.proofs.Membership.{list_any-IsIn, IsIn-list_any}
use Rattle.circuit_model.specs.declared.model.Cell.{Cell}
use Rattle.circuit_model.specs.declared.model.Fact.{Fact}
use Rattle.circuit_model.specs.declared.model.Instance.{Instance}
use Rattle.circuit_model.specs.declared.model.Assumption.TheVariants.{Part, Reading}
use Rattle.circuit_model.specs.Closure.{fact}
use Rattle.circuit_model.specs.Diagnoses.{Circuit, Place, AtPart, AtCell, stock_of}
use Rattle.circuit_model.specs.Derivation.{IsAssumed}
use Rattle.circuit_model.specs.Present.{is_cell}
use Rattle.circuit_model.proofs.SameCells.{same_cell, cell_itself}

-- a position among some, by the test for it
pub position_chosen : (places : List ℕ) (i : ℕ) → IsIn places i ↔ IsTrue (list_any (λ j. j == i) places)
position_chosen places i = (
  λ h. list_any-IsIn (λ (j : ℕ). j == i) places i h (grind (arith, nat_tests)),
  λ t.
      let r : (j : ℕ) × IsIn places j × IsTrue (j == i) = IsIn-list_any (λ (j : ℕ). j == i) places t in
      let is : r.0 ≡ i = let test = r.2 in grind (arith, nat_tests) in
      subst (λ (j : ℕ). IsIn places j) is r.1,
)

-- a cell among some, by the test for it
pub cell_chosen : (cells : List Cell) (c : Cell) → IsIn cells c ↔ IsTrue (list_any (λ d. is_cell d c) cells)
cell_chosen cells c = (
  λ h. list_any-IsIn (λ (d : Cell). is_cell d c) cells c h (cell_itself c),
  λ t.
      let r : (d : Cell) × IsIn cells d × IsTrue (is_cell d c) = IsIn-list_any (λ (d : Cell). is_cell d c) cells t in
      subst (λ (d : Cell). IsIn cells d) (same_cell r.0 c r.2) r.1,
)

module _ (P : Circuit) (E : Set Place) where
  -- a component that is assumed
  pub record HasPart (part : List Instance) : Type 0 where
    pub position : ℕ
    pub chosen : IsTrue (E (AtPart position))
    pub there : slice_get P.parts position ≡ Some part

  by_position : (part : List Instance) (i : ℕ) (o : Option (List Instance)) → slice_get P.parts i ≡ o → IsTrue (E (AtPart i)) → option_map Part o ≡ Some (Part part) → HasPart part
  by_position part i None is chosen e = cc
  by_position part i (Some p) is chosen e = let same : p ≡ part = cc in record { position = i; chosen = chosen; there = is ∙ ap Some same }

  by_place : (part : List Instance) (name : Place) → IsTrue (E name) → stock_of P name ≡ Some (Part part) → HasPart part
  by_place part (AtPart i) chosen e = by_position part i (slice_get P.parts i) refl chosen e
  by_place part (AtCell c) chosen e = by_word (P.reading_at c) e where
    by_word : (o : Option ℕ) → option_map (λ v. Reading (fact c v)) o ≡ Some (Part part) → HasPart part
    by_word None e = cc
    by_word (Some v) e = cc

  pub part_assumed : (part : List Instance) → IsAssumed P E (Part part) → HasPart part
  part_assumed part h = by_place part h.name h.chosen h.named

  -- a measurement that is assumed
  pub record HasReading (f : Fact) : Type 0 where
    pub chosen : IsTrue (E (AtCell f.cell))
    pub there : P.reading_at f.cell ≡ Some f.value

  of_cell : (f : Fact) (c : Cell) (v : ℕ) → P.reading_at c ≡ Some v → IsTrue (E (AtCell c)) → fact c v ≡ f → HasReading f
  of_cell f c v is chosen e = subst (λ (f : Fact). HasReading f) e (record { chosen = chosen; there = is })

  by_name : (f : Fact) (name : Place) → IsTrue (E name) → stock_of P name ≡ Some (Reading f) → HasReading f
  by_name f (AtPart i) chosen e = by_part (slice_get P.parts i) e where
    by_part : (o : Option (List Instance)) → option_map Part o ≡ Some (Reading f) → HasReading f
    by_part None e = cc
    by_part (Some p) e = cc
  by_name f (AtCell c) chosen e = by_word (P.reading_at c) refl e where
    by_word : (o : Option ℕ) → P.reading_at c ≡ o → option_map (λ v. Reading (fact c v)) o ≡ Some (Reading f) → HasReading f
    by_word None is e = cc
    by_word (Some v) is e = of_cell f c v is chosen (cc)

  pub reading_assumed : (f : Fact) → IsAssumed P E (Reading f) → HasReading f
  reading_assumed f h = by_name f h.name h.chosen h.named

  pub assumed_reading : (f : Fact) → HasReading f → IsAssumed P E (Reading f)
  assumed_reading f h = record { name = AtCell f.cell; chosen = h.chosen; named = ap (option_map (λ (v : ℕ). Reading (fact f.cell v))) h.there }
