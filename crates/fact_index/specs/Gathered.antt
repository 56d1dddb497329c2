-- How far a walk over the places of a cell is, and what it has gathered.
use Rattle.std.specs.Prelude.{◌≡◌, ◌⊎◌, ℕ, ◌≤◌, List, Option, Some, slice_get}
use Rattle.environment_sets.specs.Lists.{IsIn}
use Rattle.circuit_model.specs.declared.model.Cell.{Cell}
use Rattle.circuit_model.specs.declared.model.Fact.{Fact}
use Rattle.fact_index.specs.Listed.{IsAt, GivesLast}

-- the next place is the last one before a bound with a fact at the cell, and each such place from the bound on is done
pub record IsWalked (facts : List Fact) (c : Cell) (Done : ℕ → Type 0) (next : Option ℕ) : Type 0 where
  pub bound : ℕ
  pub last : GivesLast facts c bound next
  pub done : (k : ℕ) → bound ≤ k → IsAt facts c k → Done k

-- the fact at the place is in the list
abbrev pub HasPlace : List Fact → List Fact → ℕ → Type 0
HasPlace facts found k = (f : Fact) → slice_get facts k ≡ Some f → IsIn found f

-- the list has what it had and the facts at the cell that were walked over, and nothing else but facts at the cell
pub record IsGathered (facts : List Fact) (c : Cell) (old new : List Fact) (next : Option ℕ) : Type 0 where
  pub stays : (f : Fact) → IsIn old f → IsIn new f
  pub only : (f : Fact) → IsIn new f → IsIn old f ⊎ (IsIn facts f × (f.cell ≡ c))
  pub walked : IsWalked facts c (HasPlace facts new) next
