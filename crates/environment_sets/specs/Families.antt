-- Families of sets: what they cover, how they change, and how many of their sets are inside a mask.
use Rattle.std.specs.Prelude.{◌≡◌, ◌↔◌, ◌⊎◌, ℕ, List, length}
use Rattle.environment_sets.specs.Sets.{Set, ◌⊆◌}
use Rattle.environment_sets.specs.Lists.{IsRoster}

module _ {N : Type 0} where
  -- some set of the family is a subset of E
  abbrev pub IsCovered : (Set N → Type 0) → Set N → Type 0
  IsCovered Family E = (m : Set N) × Family m × (m ⊆ E)

  -- no set of the family contains another
  abbrev pub IsAntichain : (Set N → Type 0) → Type 0
  IsAntichain Family = (E F : Set N) → Family E → Family F → E ⊆ F → F ⊆ E

  -- E is put in, and exactly the members that contain it are dropped
  abbrev pub Adds : (Set N → Type 0) → (Set N → Type 0) → Set N → Type 0
  Adds Old New E = (F : Set N) → New F ↔ ((E ≡ F) ⊎ (Old F × (E ⊆ F → ⊥)))

  -- exactly the members of which P holds are dropped
  abbrev pub Drops : (Set N → Type 0) → (Set N → Type 0) → (Set N → Type 0) → Type 0
  Drops Old New P = (F : Set N) → New F ↔ (Old F × (P F → ⊥))

  -- exactly n sets of the family are inside the mask: some list has each of them once, and n is its length
  pub record AreInside (Family : Set N → Type 0) (mask : Set N) (n : ℕ) : Type 0 where
    pub inside : List (Set N)
    pub exact : IsRoster (λ E. Family E × (E ⊆ mask)) inside
    pub count : n ≡ length inside
