-- Facts in a list, and where those of a cell stand.
use Rattle.std.specs.Prelude.{◌≡◌, ◌⊎◌, ◌↔◌, ℕ, ◌<◌, List, Option, Some, None, slice_get}
use Rattle.environment_sets.specs.Lists.{IsIn}
use Rattle.circuit_model.specs.declared.model.Cell.{Cell}
use Rattle.circuit_model.specs.declared.model.Fact.{Fact}

-- the facts that are listed, and for how many there is room
pub record Listed : Type 0 where
  pub facts : List Fact
  pub room : ℕ

-- the fact at the place is at the cell
abbrev pub IsAt : List Fact → Cell → ℕ → Type 0
IsAt facts c place = (f : Fact) × (slice_get facts place ≡ Some f) × (f.cell ≡ c)

-- the place is the last one before the bound with a fact at the cell
pub record IsLast (facts : List Fact) (c : Cell) (bound place : ℕ) : Type 0 where
  pub before : place < bound
  pub at : IsAt facts c place
  pub last : (k : ℕ) → place < k → k < bound → IsAt facts c k → ⊥

-- the answer is the last place before the bound with a fact at the cell; there is none exactly where no place has one
abbrev pub GivesLast : List Fact → Cell → ℕ → Option ℕ → Type 0
GivesLast facts c bound None = (k : ℕ) → k < bound → IsAt facts c k → ⊥
GivesLast facts c bound (Some place) = IsLast facts c bound place

-- the facts at the cell are there too, and nothing else is added
abbrev pub HasFactsAt : List Fact → Cell → List Fact → List Fact → Type 0
HasFactsAt facts c old new = (f : Fact) → IsIn new f ↔ (IsIn old f ⊎ (IsIn facts f × (f.cell ≡ c)))
