-- Branches: what is chosen of the slots before a place in the order, and what is open from there on.
use Rattle.std.specs.Prelude.{◌↔◌, ℕ, ◌≤◌, ◌<◌, IsTrue, length, take, drop}
use Rattle.environment_sets.specs.Sets.{Set, ◌⊆◌, ◌∪◌, ◌∩◌}
use Rattle.environment_sets.specs.Members.{members}
use Rattle.environment_sets.specs.Lists.{IsIn}
use Rattle.environment_sets.specs.Orders.{ListsAll}
use Rattle.hitting_sets.specs.Hitting.{IsMinimalFor}
use Rattle.first_diagnoses.specs.declared.bound.Bound.{Bound}
use Rattle.first_diagnoses.specs.declared.branch.Branch.{Branch}
use Rattle.first_diagnoses.specs.declared.problem.Problem.{Problem}
use Rattle.first_diagnoses.specs.declared.rounds.Outlook.{Outlook}
use Rattle.first_diagnoses.specs.declared.rounds.Outlook.TheVariants.{Nothing, Heavier, Whole, Open}
use Rattle.first_diagnoses.specs.Weights.{weight_in}

-- chosen slots stand before the place, and the open ones are those from there on
pub record IsBranch (p : Problem) (b : Branch) : Type 0 where
  pub within : b.place ≤ length p.order.now
  pub decided : ListsAll (take b.place p.order.now) (members b.chosen)
  pub rest : (k : ℕ) → IsTrue (members b.open k) ↔ IsIn (drop b.place p.order.now) k

-- a minimal hitting set with all that is chosen, and else with open slots alone
pub record IsSought (p : Problem) (b : Branch) (D : Set ℕ) : Type 0 where
  pub minimal : IsMinimalFor p.conflicts.now D
  pub chosen : members b.chosen ⊆ D
  pub rest : D ⊆ (members b.chosen ∪ members b.open)

-- each sought set weighs so much by the slots that are taken alone
abbrev pub IsBound : Problem → Branch → Bound → Type 0
IsBound p b bound = (D : Set ℕ) → IsSought p b D → bound.least ≤ weight_in p (D ∩ members bound.taken)

-- what a branch has to expect where sets of a weight are looked for
abbrev pub IsOutlook : Problem → Branch → ℕ → Outlook → Type 0
IsOutlook p b weight Nothing = (D : Set ℕ) → IsSought p b D → ⊥
IsOutlook p b weight (Heavier least) = (weight < least) × ((D : Set ℕ) → IsSought p b D → least ≤ weight_in p D)
IsOutlook p b weight Whole = IsMinimalFor p.conflicts.now (members b.chosen)
IsOutlook p b weight Open = b.place < length p.order.now
