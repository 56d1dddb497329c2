-- A row of names in an array: the names, and nothing in the places after them.
use Rattle.std.specs.Prelude.{◌≡◌, ℕ, ◌-◌, ◌≤◌, ◌++◌, List, [], ◌∷◌, length, map, replicate, Option, Some, None}
use Rattle.circuit_model.specs.declared.limits.TheConstants.{MOST_PINS}

-- the names up to the first empty place
abbrev pub shown : List (Option (List ℕ)) → List (List ℕ)
shown [] = []
shown (None ∷ places) = []
shown (Some name ∷ places) = name ∷ shown places

-- the names, and nothing in the places after them
abbrev pub filled : List (List ℕ) → List (Option (List ℕ))
filled names = map Some names ++ replicate (MOST_PINS - length names) None

-- an array of as many places as a definition may have pins, with so many names in the first of them and nothing after them
pub record IsRow (places : List (Option (List ℕ))) (len : ℕ) : Type 0 where
  pub size : length places ≡ MOST_PINS
  pub within : len ≤ MOST_PINS
  pub same : filled (shown places) ≡ places
  pub count : length (shown places) ≡ len
