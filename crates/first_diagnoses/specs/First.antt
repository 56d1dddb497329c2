-- The first values in an order.
use Rattle.std.specs.Prelude.{◌≡◌, ◌⊎◌, ℕ, ◌≤◌, List, length}
use Rattle.environment_sets.specs.Lists.{IsIn, IsRising}

module _ {X : Type 0} where
  -- of the values of which P holds the first k, or all where there are fewer, in order: each one that is left out comes
  -- after k others
  pub record AreFirst (before : X → X → Type 0) (P : X → Type 0) (k : ℕ) (xs : List X) : Type 0 where
    pub rising : IsRising before xs
    pub sound : (x : X) → IsIn xs x → P x
    pub few : length xs ≤ k
    pub others : (x : X) → P x → IsIn xs x ⊎ ((length xs ≡ k) × ((y : X) → IsIn xs y → before y x))
