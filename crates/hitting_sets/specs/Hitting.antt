-- Minimal hitting sets of lists of conflicts.
use Rattle.std.specs.Prelude.{◌≡◌, ◌⊎◌, ℕ, IsTrue, List, ◌++◌}
use Rattle.environment_sets.specs.declared.environment.Env.{Env}
use Rattle.environment_sets.specs.Sets.{Set, only, ◌∪◌, Hits, IsMinimalHittingSet}
use Rattle.environment_sets.specs.Members.{sets, HasMember}
use Rattle.environment_sets.specs.Lists.{IsRoster}

-- D hits each of the conflicts, and none of its proper subsets does
abbrev pub IsMinimalFor : List Env → Set ℕ → Type 0
IsMinimalFor conflicts = IsMinimalHittingSet (HasMember conflicts)

-- the environments are exactly the minimal hitting sets of the conflicts, each once
abbrev pub AreMinimalFor : List Env → List Env → Type 0
AreMinimalFor conflicts es = IsRoster (IsMinimalFor conflicts) (sets es)

-- D is S with one element of C
abbrev pub Widens : Set ℕ → Set ℕ → Set ℕ → Type 0
Widens C S D = (k : ℕ) × IsTrue (C k) × (D ≡ S ∪ only k)

-- what may become of S where C is to be hit too: S itself where it hits C, and else S with one element of C
abbrev pub ComesFrom : Set ℕ → Set ℕ → Set ℕ → Type 0
ComesFrom C S D = (Hits S C × (D ≡ S)) ⊎ ((Hits S C → ⊥) × Widens C S D)

-- to the environments are added exactly the sets of which P holds, each once
pub record Adds (P : Set ℕ → Type 0) (old new : List Env) : Type 0 where
  pub added : List Env
  pub appended : new ≡ old ++ added
  pub roster : IsRoster P (sets added)
