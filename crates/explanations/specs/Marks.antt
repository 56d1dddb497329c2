-- Marks on facts.
use Rattle.std.specs.Prelude.{◌≡◌, ℕ, ◌⊎◌, Bool, true, List, length, Some, slice_get}
use Rattle.environment_sets.specs.Lists.{IsIn}
use Rattle.circuit_model.specs.declared.model.Fact.{Fact}
use Rattle.proof_check.specs.Closing.{Timed}

-- the place is marked
abbrev pub IsMarked : List Bool → ℕ → Type 0
IsMarked marks i = slice_get marks i ≡ Some true

-- where one of the wanted facts stands is a mark
abbrev pub HasMarked : (wanted : List Fact) → List Timed → List Bool → Type 0
HasMarked wanted facts marks = (i : ℕ) (t : Timed) → slice_get facts i ≡ Some t → IsIn wanted t.fact → IsMarked marks i

-- the places of the wanted facts are marked as well, and no others
pub record Marks (wanted : List Fact) (facts : List Timed) (old new : List Bool) : Type 0 where
  pub as_many : length new ≡ length old
  pub kept : (i : ℕ) → IsMarked old i → IsMarked new i
  pub marked : HasMarked wanted facts new
  pub others : (i : ℕ) (t : Timed) → slice_get facts i ≡ Some t → IsMarked new i → IsMarked old i ⊎ IsIn wanted t.fact
