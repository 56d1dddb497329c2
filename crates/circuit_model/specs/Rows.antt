-- A row of nets in an array: the nets, and nothing in the places after them.
use Rattle.std.specs.Prelude.{◌≡◌, ℕ, ◌-◌, ◌≤◌, ◌++◌, List, [], ◌∷◌, length, map, replicate, Option, Some, None}
use Rattle.circuit_model.specs.declared.limits.TheConstants.{MOST_PINS}

-- the nets up to the first empty place
abbrev pub nets_in : List (Option ℕ) → List ℕ
nets_in [] = []
nets_in (None ∷ places) = []
nets_in (Some net ∷ places) = net ∷ nets_in places

-- the nets, and nothing in the places after them
abbrev pub filled : List ℕ → List (Option ℕ)
filled nets = map Some nets ++ replicate (MOST_PINS - length nets) None

-- an array of as many places as a definition may have pins, with so many nets in the first of them and nothing after them
pub record IsRow (places : List (Option ℕ)) (len : ℕ) : Type 0 where
  pub size : length places ≡ MOST_PINS
  pub within : len ≤ MOST_PINS
  pub same : filled (nets_in places) ≡ places
  pub count : length (nets_in places) ≡ len
