-- How many values have a property.
use Rattle.std.specs.Prelude.{◌≡◌, ℕ, List, length}
use Rattle.environment_sets.specs.Lists.{IsRoster}

-- so many values have the property
pub record AreSoMany {X : Type 0} (P : X → Type 0) (count : ℕ) : Type 0 where
  pub listed : List X
  pub roster : IsRoster P listed
  pub many : length listed ≡ count
