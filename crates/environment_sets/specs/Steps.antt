-- Steps through a set, from each number to the next.
use Rattle.std.specs.Prelude.{ℕ, ◌≤◌, IsTrue}
use Rattle.environment_sets.specs.Sets.{Set}

-- no number of the set is this one or above it
abbrev pub HasNoneFrom : Set ℕ → ℕ → Type 0
HasNoneFrom E from = (k : ℕ) → from ≤ k → IsTrue (E k) → ⊥

-- s is the least number of the set from this one on
pub record IsNextFrom (E : Set ℕ) (from s : ℕ) : Type 0 where
  pub reached : from ≤ s
  pub member : IsTrue (E s)
  pub least : (k : ℕ) → from ≤ k → IsTrue (E k) → s ≤ k
