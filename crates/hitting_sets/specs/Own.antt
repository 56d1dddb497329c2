-- What each element of a hitting set hits alone.
use Rattle.std.specs.Prelude.{◌≡◌, ℕ, IsTrue}
use Rattle.environment_sets.specs.Sets.{Set}

-- k is the one element that D shares with C
pub record IsAlone (D C : Set ℕ) (k : ℕ) : Type 0 where
  pub element : IsTrue (D k)
  pub hit : IsTrue (C k)
  pub alone : (j : ℕ) → IsTrue (D j) → IsTrue (C j) → j ≡ k

-- some set of the family is hit by k alone of the elements of D
abbrev pub HasOwn : (Set ℕ → Type 0) → Set ℕ → ℕ → Type 0
HasOwn Family D k = (C : Set ℕ) × Family C × IsAlone D C k
