-- What stands, as a present.
use Rattle.std.specs.Prelude.{◌≡◌, ◌⊎◌, ℕ, ◌<◌, ◌==◌, ◌&&◌, not, if◌then◌else◌, Bool, List, ◌∷◌, length, map, Option, Some, None, IsSome, slice_get}
use Rattle.std.specs.List.{filter}
use Rattle.circuit_model.specs.declared.model.Fact.{Fact}
use Rattle.circuit_model.specs.declared.model.Assumption.TheVariants.{Part, Reading}
use Rattle.circuit_model.specs.Stock.{Stock}
use Rattle.circuit_model.specs.Diagnoses.{Place, AtPart, AtCell}
use Rattle.circuit_model.specs.Present.{PresentView, is_cell, is_fact}
use Rattle.circuit_model.specs.Renaming.{along}
use Rattle.circuit_model.specs.Whole.{places_in_order}
use Rattle.environment_sets.specs.declared.environment.TheConstants.{SLOTS}
use Rattle.environment_sets.specs.Sets.{Set}
use Rattle.environment_sets.specs.Lists.{IsIn}
use Rattle.environment_sets.specs.Orders.{IsOrder}
use Rattle.standing_view.specs.Standing.{Stands, order_of, AreInOrder}

-- one of the readings is remembered at the slot
pub record IsReadingOf (S : Stock ℕ) (readings : List Fact) (slot : ℕ) : Type 0 where
  pub reading : Fact
  pub listed : IsIn readings reading
  pub remembered : S slot ≡ Some (Reading reading)

-- the reading is remembered at a slot that does not stand
pub record IsParked (S : Stock ℕ) (st : Stands) (f : Fact) : Type 0 where
  pub slot : ℕ
  pub below : slot < SLOTS
  pub remembered : S slot ≡ Some (Reading f)
  pub apart : IsIn (order_of st) slot → ⊥

-- The slots stand for the present, and beside them the parked readings are remembered, and nothing else: in order, the
-- parts are remembered at their slots and the measurements at theirs; the slots are distinct and the cells rise; no
-- parked reading stands; no reading is remembered twice; and whatever is remembered stands or is a parked reading.
pub record StandsFor (S : Stock ℕ) (st : Stands) (P : PresentView) (parked : List Fact) : Type 0 where
  pub components : map S st.parts ≡ map (λ c. Some (Part c.part)) P.parts
  pub measured : st.cells ≡ map (λ f. f.cell) P.readings
  pub measurements : map S st.slots ≡ map (λ f. Some (Reading f)) P.readings
  pub order : IsOrder SLOTS (order_of st)
  pub rising : AreInOrder st.cells
  pub each_parked : (f : Fact) → IsIn parked f → IsParked S st f
  pub once : (k l : ℕ) (f : Fact) → S k ≡ Some (Reading f) → S l ≡ Some (Reading f) → k ≡ l
  pub all : (k : ℕ) → IsSome (S k) → IsIn (order_of st) k ⊎ IsReadingOf S parked k

-- the readings without this one
abbrev pub without_fact : Fact → List Fact → List Fact
without_fact f readings = filter (λ g. not (is_fact f g)) readings

-- what stands in the second list at the place of the first element of the first list that passes
abbrev pub beside : {A B : Type 0} → (A → Bool) → List A → List B → Option B
beside test (x ∷ xs) (y ∷ ys) = if test x then Some y else beside test xs ys
beside test _ _ = None

-- the slot of a component by its position, and of a measured cell
abbrev pub slot_of : Stands → Place → Option ℕ
slot_of st (AtPart i) = slice_get st.parts i
slot_of st (AtCell c) = beside (λ d. is_cell d c) st.cells st.slots

-- the component or the cell of a slot
abbrev pub place_of : Stands → ℕ → Option Place
place_of st k = beside (λ slot. slot == k) (order_of st) (places_in_order (length st.parts) st.cells)

-- the places whose slots are in the set
abbrev pub places : Stands → Set ℕ → Set Place
places st E = along (slot_of st) E
