-- Which cells may go into one inference.
use Rattle.std.specs.Prelude.{◌≡◌, ◌⊎◌, ◌↔◌, ℕ, List, Option, Some}
use Rattle.circuit_model.specs.declared.model.Cell.{Cell}
use Rattle.circuit_model.specs.declared.model.Instance.{Instance}
use Rattle.circuit_model.specs.declared.model.Assumption.{Assumption}
use Rattle.circuit_model.specs.declared.model.Assumption.TheVariants.{Part}
use Rattle.environment_sets.specs.Lists.{IsIn, AreDistinct}
use Rattle.assumption_slots.specs.Slots.{stock}

-- an instance of the component has the cell
abbrev pub IsOfPart : List Instance → Cell → Type 0
IsOfPart part c = (instance : Instance) × IsIn part instance × IsIn instance.cells c

-- the cell is one of the component at the slot
abbrev pub IsCellOf : List (Option Assumption) → ℕ → Cell → Type 0
IsCellOf slots slot c = (part : List Instance) × (stock slots slot ≡ Some (Part part)) × IsOfPart part c

-- the two are among the cells
abbrev pub HasBoth : List Cell → Cell → Cell → Type 0
HasBoth cells c d = IsIn cells c × IsIn cells d

-- an instance of the component has both cells
abbrev pub IsJoinedIn : List Instance → Cell → Cell → Type 0
IsJoinedIn part c d = (instance : Instance) × IsIn part instance × HasBoth instance.cells c d

-- an instance of the component at the slot has both cells
abbrev pub IsJoinedAt : List (Option Assumption) → Cell → ℕ → Cell → Type 0
IsJoinedAt slots c slot d = (part : List Instance) × (stock slots slot ≡ Some (Part part)) × IsJoinedIn part c d

-- it is the cell itself, or an instance of a remembered component has both
abbrev pub IsNear : List (Option Assumption) → Cell → Cell → Type 0
IsNear slots c d = (d ≡ c) ⊎ ((slot : ℕ) × IsJoinedAt slots c slot d)

-- those with the property are there too, none twice where none was
pub record AreAdded (P : Cell → Type 0) (old new : List Cell) : Type 0 where
  pub once : AreDistinct old → AreDistinct new
  pub exact : (d : Cell) → IsIn new d ↔ (IsIn old d ⊎ P d)
