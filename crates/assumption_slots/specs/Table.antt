-- Which components have a port at a cell, by places of cells.
use Rattle.std.specs.Prelude.{◌≡◌, ◌≢◌, ◌↔◌, ◌⊎◌, ℕ, zero, suc, ◌+◌, ◌*◌, ◌%◌, Bool, false, IsTrue, List, [], ◌∷◌, Option, Some, length}
use Rattle.circuit_model.specs.declared.limits.TheConstants.{MOST_CYCLES}
use Rattle.circuit_model.specs.declared.model.Cell.{Cell}
use Rattle.circuit_model.specs.declared.model.Instance.{Instance}
use Rattle.circuit_model.specs.declared.model.Assumption.{Assumption}
use Rattle.circuit_model.specs.declared.model.Assumption.TheVariants.{Part}
use Rattle.environment_sets.specs.declared.environment.Env.{Env}
use Rattle.environment_sets.specs.Sets.{Set}
use Rattle.environment_sets.specs.Members.{members}
use Rattle.environment_sets.specs.Lists.{IsIn}
use Rattle.assumption_slots.specs.declared.table.TheConstants.{PLACES}
use Rattle.assumption_slots.specs.Slots.{stock}

-- the place of the cell
unfoldable pub place_of_cell : Cell → ℕ
place_of_cell cell = (cell.net * MOST_CYCLES + cell.cycle) % PLACES

-- one of the cells is of the place
abbrev pub HasCellAt : List Cell → ℕ → Type 0
HasCellAt cells place = (cell : Cell) × IsIn cells cell × (place_of_cell cell ≡ place)

-- an instance of the component has a port at a cell of the place
abbrev pub HasPortAt : List Instance → ℕ → Type 0
HasPortAt part place = (instance : Instance) × IsIn part instance × HasCellAt instance.cells place

-- it is a component that has a port at a cell of the place
abbrev pub HasPortOf : Option Assumption → ℕ → Type 0
HasPortOf what place = (part : List Instance) × (what ≡ Some (Part part)) × HasPortAt part place

-- the slots in the row of the place
abbrev pub slots_at : List Env → ℕ → Set ℕ
slots_at [] place k = false
slots_at (row ∷ rows) zero k = members row k
slots_at (row ∷ rows) (suc place) k = slots_at rows place k

-- the slot is in each row of which P holds, or out of each; all else stays
pub record IsMarked (slot : ℕ) (is_in : Bool) (P : ℕ → Type 0) (old new : List Env) : Type 0 where
  pub wide : length new ≡ length old
  pub others : (place k : ℕ) → k ≢ slot → slots_at new place k ≡ slots_at old place k
  pub here : (place : ℕ) → P place → slots_at new place slot ≡ is_in
  pub same : (place : ℕ) → (slots_at new place slot ≡ slots_at old place slot) ⊎ P place

-- the row of each place has exactly the slots of the components that have a port at a cell of the place
pub record IsTable (slots : List (Option Assumption)) (rows : List Env) : Type 0 where
  pub wide : length rows ≡ PLACES
  pub exact : (place k : ℕ) → IsTrue (slots_at rows place k) ↔ HasPortOf (stock slots k) place
