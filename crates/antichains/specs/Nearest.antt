-- The first of what was found and one set more.
use Rattle.std.specs.Prelude.{◌⊎◌, ℕ, ◌<◌, List, Option, Some, None}
use Rattle.environment_sets.specs.Sets.{Set, ◌⊆◌}
use Rattle.environment_sets.specs.Orders.{ComesBefore}
use Rattle.environment_sets.specs.Walks.{ComesAfter}

module _ {N : Type 0} where
  -- something was found that comes before the set
  abbrev pub IsBehind : List N → Option (Set N) → Set N → Type 0
  IsBehind order None E = ⊥
  IsBehind order (Some found) E = ComesBefore order found E

  -- the set is inside the mask, comes after the last one, and is not behind what was found
  pub record IsNearer (order : List N) (mask : Set N) (last found : Option (Set N)) (E : Set N) : Type 0 where
    pub inside : E ⊆ mask
    pub after : ComesAfter order last E
    pub ahead : IsBehind order found E → ⊥

  -- the set is not inside the mask after the last one, or it is behind what was found
  abbrev pub IsPassed : List N → Set N → Option (Set N) → Option (Set N) → Set N → Type 0
  IsPassed order mask last found E = ((E ⊆ mask) × ComesAfter order last E → ⊥) ⊎ IsBehind order found E

-- there is a bound, and the number is less
abbrev pub IsLess : ℕ → Option ℕ → Type 0
IsLess n None = ⊥
IsLess n (Some bound) = n < bound

-- there is a bound, and the number is more
abbrev pub IsMore : ℕ → Option ℕ → Type 0
IsMore n None = ⊥
IsMore n (Some bound) = bound < n
