-- Rounds: the sets of one weight.
use Rattle.std.specs.Prelude.{◌≡◌, ◌⊎◌, ℕ, ◌-◌, ◌<◌, List, ◌++◌, length}
use Rattle.std.specs.declared.cmp.Ordering.TheVariants.{Less}
use Rattle.environment_sets.specs.declared.environment.Env.{Env}
use Rattle.environment_sets.specs.Sets.{Set}
use Rattle.environment_sets.specs.Members.{sets}
use Rattle.environment_sets.specs.Orders.{by_first}
use Rattle.first_diagnoses.specs.declared.branch.Branch.{Branch}
use Rattle.first_diagnoses.specs.declared.problem.Problem.{Problem}
use Rattle.first_diagnoses.specs.First.{AreFirst}
use Rattle.first_diagnoses.specs.Weights.{weight_in}
use Rattle.first_diagnoses.specs.Branches.{IsSought}

-- of two sets of one weight, the one that has the first slot at which they differ comes first
abbrev pub ComesFirst : Problem → Set ℕ → Set ℕ → Type 0
ComesFirst p E F = by_first p.order.now E F ≡ Less

-- a sought set of this weight
abbrev pub IsOfRound : Problem → Branch → ℕ → Set ℕ → Type 0
IsOfRound p b weight D = IsSought p b D × (weight_in p D ≡ weight)

-- to the environments are added the first sets of which P holds, up to so many environments in all
pub record AddsFirst (p : Problem) (P : Set ℕ → Type 0) (limit : ℕ) (old new : List Env) : Type 0 where
  pub added : List Env
  pub appended : new ≡ old ++ added
  pub first : AreFirst (ComesFirst p) P (limit - length old) (sets added)

-- the one weighs less, or as much as the other, and comes first
abbrev pub ComesByWeight : Problem → Set ℕ → Set ℕ → Type 0
ComesByWeight p E F = (weight_in p E < weight_in p F) ⊎ ((weight_in p E ≡ weight_in p F) × ComesFirst p E F)
