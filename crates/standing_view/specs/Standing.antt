-- The slots of what stands, in order.
use Rattle.std.specs.Prelude.{◌≡◌, ℕ, suc, ◌-◌, ◌≤◌, ◌==◌, if◌then◌else◌, IsTrue, List, [], ◌∷◌, ◌++◌, length, take}
use Rattle.std.specs.List.{list_any, insert, remove}
use Rattle.circuit_model.specs.declared.model.Cell.{Cell}
use Rattle.circuit_model.specs.Present.{is_cell_before}
use Rattle.circuit_model.specs.declared.limits.TheConstants.{MOST_PARTS, MOST_READINGS}
use Rattle.environment_sets.specs.declared.environment.TheConstants.{SLOTS}
use Rattle.environment_sets.specs.Sets.{Set}
use Rattle.environment_sets.specs.Lists.{IsRising}
use Rattle.environment_sets.specs.Orders.{IsOrder}

-- the slots of the components in order of declaration, the measured cells in order of cells, and the slots of their
-- measurements
pub record Stands : Type 0 where
  pub parts : List ℕ
  pub cells : List Cell
  pub slots : List ℕ

-- no component and no measurement
abbrev pub nothing_stands : Stands
nothing_stands = record { parts = []; cells = []; slots = [] }

-- the slots of the components, then those of the measurements
abbrev pub order_of : Stands → List ℕ
order_of st = st.parts ++ st.slots

-- one of the slots is the number
abbrev pub is_among : List ℕ → Set ℕ
is_among slots = λ k. list_any (λ slot. k == slot) slots

-- the slots of the components
abbrev pub parts_of : Stands → Set ℕ
parts_of st = is_among st.parts

-- the slots of the measurements
abbrev pub readings_of : Stands → Set ℕ
readings_of st = is_among st.slots

-- all slots that stand
abbrev pub mask_of : Stands → Set ℕ
mask_of st = is_among (order_of st)

-- each cell comes before the later ones
abbrev pub AreInOrder : List Cell → Type 0
AreInOrder cells = IsRising (λ c d. IsTrue (is_cell_before c d)) cells

-- a slot for each measured cell; the slots are distinct and below the bound, the cells rise, and the limits of a present
-- are kept
pub record IsStanding (st : Stands) : Type 0 where
  pub as_many : length st.slots ≡ length st.cells
  pub order : IsOrder SLOTS (order_of st)
  pub rising : AreInOrder st.cells
  pub parts : length st.parts ≤ MOST_PARTS
  pub readings : length st.cells ≤ MOST_READINGS

-- how many cells come before the first one that comes after this cell
abbrev pub place_among : Cell → List Cell → ℕ
place_among c [] = 0
place_among c (d ∷ cells) = if is_cell_before c d then 0 else suc (place_among c cells)

-- one component more, after the others
abbrev pub with_part_at : ℕ → Stands → Stands
with_part_at slot st = record st { parts = st.parts ++ slot ∷ [] }

-- one measurement more, at its cell's place in the order of cells
abbrev pub with_reading_at : ℕ → Cell → Stands → Stands
with_reading_at slot c st = let place = place_among c st.cells in record st { cells = insert st.cells place c; slots = insert st.slots place slot }

-- the measurement at the place stands no more
abbrev pub without_reading_at : ℕ → Stands → Stands
without_reading_at place st = record st { cells = remove st.cells place; slots = remove st.slots place }

-- the last component stands no more
abbrev pub without_last_part_at : Stands → Stands
without_last_part_at st = record st { parts = take (length st.parts - 1) st.parts }
