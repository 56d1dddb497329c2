-- Sets of component slots, as sets of positions.
use Rattle.std.specs.Prelude.{◌≡◌, ◌↔◌, ℕ, List, length, map, slice_get}
use Rattle.std.specs.List.{range_with_len}
use Rattle.circuit_model.specs.Renaming.{passes}
use Rattle.environment_sets.specs.Sets.{Set, ◌⊆◌, IsBelow, IsMinimalHittingSet}
use Rattle.environment_sets.specs.Lists.{IsIn}
use Rattle.environment_sets.specs.Orders.{ComesBefore}
use Rattle.standing_view.specs.Standing.{Stands, IsStanding, parts_of, order_of}

-- the positions of the components whose slots are in the set
abbrev pub positions : Stands → Set ℕ → Set ℕ
positions st E = λ i. passes E (slice_get st.parts i)

-- all positions, in order
abbrev pub positions_in_order : Stands → List ℕ
positions_in_order st = range_with_len 0 (length st.parts)

-- E is the one set of component slots with exactly these positions
pub record AreSlotsAt (st : Stands) (C E : Set ℕ) : Type 0 where
  pub inside : E ⊆ parts_of st
  pub are : positions st E ≡ C
  pub only : (F : Set ℕ) → F ⊆ parts_of st → positions st F ≡ C → F ≡ E

-- there is a component at each position
abbrev pub PositionsAreInRange : Type 0
PositionsAreInRange = (st : Stands) (E : Set ℕ) → IsBelow (length st.parts) (positions st E)

-- each set of positions is that of exactly one set of component slots
abbrev pub PositionsHaveSlots : Type 0
PositionsHaveSlots = (st : Stands) → IsStanding st → (C : Set ℕ) → IsBelow (length st.parts) C → (E : Set ℕ) × AreSlotsAt st C E

-- sets of component slots are subsets where their positions are
abbrev pub PositionsKeepSubsets : Type 0
PositionsKeepSubsets = (st : Stands) (E F : Set ℕ) → E ⊆ parts_of st → (E ⊆ F) ↔ (positions st E ⊆ positions st F)

-- and come in the order of their positions
abbrev pub PositionsKeepTheOrder : Type 0
PositionsKeepTheOrder =
    (st : Stands) → IsStanding st → (E F : Set ℕ) → E ⊆ parts_of st → F ⊆ parts_of st → ComesBefore (order_of st) E F ↔ ComesBefore (positions_in_order st) (positions st E) (positions st F)

-- the sets are sets of component slots
abbrev pub AreInParts : Stands → List (Set ℕ) → Type 0
AreInParts st Cs = (C : Set ℕ) → IsIn Cs C → C ⊆ parts_of st

-- a minimal hitting set of sets of component slots is one
abbrev pub HittingSetsAreSlots : Type 0
HittingSetsAreSlots = (st : Stands) (Cs : List (Set ℕ)) → AreInParts st Cs → (D : Set ℕ) → IsMinimalHittingSet (IsIn Cs) D → D ⊆ parts_of st

-- and its positions are a minimal hitting set of theirs
abbrev pub PositionsKeepHittingSets : Type 0
PositionsKeepHittingSets =
    (st : Stands) → IsStanding st → (Cs : List (Set ℕ)) → AreInParts st Cs → (D : Set ℕ) → D ⊆ parts_of st → IsMinimalHittingSet (IsIn Cs) D ↔ IsMinimalHittingSet (IsIn (map (positions st) Cs)) (positions st D)
