-- The components and the cells of an environment.
use Rattle.std.specs.Prelude.{◌≡◌, ℕ, ◌||◌, Bool, false, List, [], slice_index_or, is_some}
use Rattle.environment_sets.specs.Sets.{Set}
use Rattle.circuit_model.specs.declared.model.Cell.{Cell}
use Rattle.circuit_model.specs.Diagnoses.{Place, AtPart, AtCell}
use Rattle.circuit_model.specs.Present.{PresentView}
use Rattle.circuit_model.specs.Whole.{stock}
use Rattle.plain_answers.specs.declared.environment.Environment.{Environment}

-- the flag of the cell, in a row for each net; false past the ends
abbrev pub flag_at : List (List Bool) → Cell → Bool
flag_at rows c = slice_index_or (slice_index_or rows c.net []) c.cycle false

-- the components and the cells of an environment
abbrev pub members : Environment → Set Place
members e (AtPart place) = slice_index_or e.parts place false
members e (AtCell c) = flag_at e.cells c

-- F is the components of E
pub record IsPartsOf (E F : Set Place) : Type 0 where
  pub parts : (k : ℕ) → F (AtPart k) ≡ E (AtPart k)
  pub cells : (c : Cell) → F (AtCell c) ≡ false

-- F is E with all measured cells
pub record IsWithReadings (s : PresentView) (E F : Set Place) : Type 0 where
  pub parts : (k : ℕ) → F (AtPart k) ≡ E (AtPart k)
  pub cells : (c : Cell) → F (AtCell c) ≡ (E (AtCell c) || is_some (stock s (AtCell c)))
