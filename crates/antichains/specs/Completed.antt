-- Numbers that make a set contain one of a family.
use Rattle.std.specs.Prelude.{ℕ, IsTrue, IsFalse}
use Rattle.environment_sets.specs.Sets.{Set, ◌∪◌, ◌⊆◌, only}
use Rattle.environment_sets.specs.Families.{IsCovered}

-- the sets of the family that lack the number
abbrev pub Lacking : ℕ → (Set ℕ → Type 0) → Set ℕ → Type 0
Lacking lacked Family F = Family F × IsFalse (F lacked)

-- with any number of S, E contains a set of the family
abbrev pub Complete : Set ℕ → (Set ℕ → Type 0) → Set ℕ → Type 0
Complete S Family E = (n : ℕ) → IsTrue (S n) → IsCovered Family (E ∪ only n)

-- F lacks the one number, and E with the other contains it
pub record IsCompleted (lacked n : ℕ) (F E : Set ℕ) : Type 0 where
  pub lacks : IsFalse (F lacked)
  pub within : F ⊆ E ∪ only n
