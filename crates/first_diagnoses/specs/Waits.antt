-- Branches that wait for the rounds to come.
use Rattle.std.specs.Prelude.{◌≡◌, ◌⊎◌, ℕ, ◌≤◌, ◌<◌, min, Option, Some, None, List, [], ◌++◌}
use Rattle.environment_sets.specs.Sets.{Set}
use Rattle.environment_sets.specs.Lists.{IsIn, IsRising}
use Rattle.first_diagnoses.specs.declared.problem.Problem.{Problem}
use Rattle.first_diagnoses.specs.declared.waiting.Waiting.{Waiting}
use Rattle.first_diagnoses.specs.Weights.{weight_in}
use Rattle.first_diagnoses.specs.Branches.{IsBranch, IsSought}
use Rattle.first_diagnoses.specs.Rounds.{ComesFirst}

-- each sought set of the branch weighs as much as its bound, or more
pub record IsWaiting (p : Problem) (w : Waiting) : Type 0 where
  pub decided : IsBranch p w.branch
  pub bound : (D : Set ℕ) → IsSought p w.branch D → w.least ≤ weight_in p D

-- each sought set of the one branch comes first before each of the other
abbrev pub ComesWhole : Problem → Waiting → Waiting → Type 0
ComesWhole p v w = (D E : Set ℕ) → IsSought p v.branch D → IsSought p w.branch E → ComesFirst p D E

-- branches that wait, in the order of their sought sets
pub record AreWaiting (p : Problem) (waiting : List Waiting) : Type 0 where
  pub each : (w : Waiting) → IsIn waiting w → IsWaiting p w
  pub rising : IsRising (ComesWhole p) waiting

-- a sought set of one of the branches
abbrev pub IsSoughtIn : Problem → List Waiting → Set ℕ → Type 0
IsSoughtIn p waiting D = (w : Waiting) × IsIn waiting w × IsSought p w.branch D

-- a sought set of one of the branches, of this weight
abbrev pub IsOfRoundIn : Problem → List Waiting → ℕ → Set ℕ → Type 0
IsOfRoundIn p waiting weight D = IsSoughtIn p waiting D × (weight_in p D ≡ weight)

-- of the sets of which P holds, all that weigh more than this wait in the branches, whose bounds are higher
pub record AreHeavier (p : Problem) (P : Set ℕ → Type 0) (weight : ℕ) (waiting : List Waiting) : Type 0 where
  pub branches : AreWaiting p waiting
  pub heavier : (w : Waiting) → IsIn waiting w → weight < w.least
  pub sound : (D : Set ℕ) → IsSoughtIn p waiting D → P D
  pub others : (D : Set ℕ) → P D → (weight_in p D ≤ weight) ⊎ IsSoughtIn p waiting D

-- to the branches are added some in which the heavier sets of which P holds wait
pub record AddsHeavier (p : Problem) (P : Set ℕ → Type 0) (weight : ℕ) (old new : List Waiting) : Type 0 where
  pub added : List Waiting
  pub appended : new ≡ old ++ added
  pub later : AreHeavier p P weight added

-- the least of the bounds, and none where there is no branch
abbrev pub IsLeastOf : List Waiting → Option ℕ → Type 0
IsLeastOf waiting None = waiting ≡ []
IsLeastOf waiting (Some least) = ((w : Waiting) × IsIn waiting w × (w.least ≡ least)) × ((w : Waiting) → IsIn waiting w → least ≤ w.least)

-- the lesser of two weights, where there are two
abbrev pub lesser_of : Option ℕ → ℕ → ℕ
lesser_of None other = other
lesser_of (Some weight) other = min weight other
