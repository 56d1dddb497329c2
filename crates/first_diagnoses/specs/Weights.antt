-- Weights of slots, which order sets by cost and then by size.
use Rattle.std.specs.Prelude.{◌≡◌, ℕ, ◌+◌, ◌*◌, ◌≤◌, length, slice_index}
use Rattle.environment_sets.specs.declared.environment.TheConstants.{SLOTS}
use Rattle.environment_sets.specs.Sets.{Set}
use Rattle.environment_sets.specs.Members.{HasMember}
use Rattle.environment_sets.specs.Orders.{IsOrder}
use Rattle.environment_sets.specs.Costs.{cost_in, ListsEach}
use Rattle.first_diagnoses.specs.declared.problem.Problem.{Problem}
use Rattle.first_diagnoses.specs.declared.problem.TheConstants.{COST_UNIT, MOST_WEIGHT}

-- the weight of a slot of this cost: a cost of one weighs more than all slots together by their number
abbrev pub weight_for : ℕ → ℕ
weight_for cost = cost * COST_UNIT + 1

-- the sum of the weights of the elements
abbrev pub weight_in : Problem → Set ℕ → ℕ
weight_in p E = cost_in p.order.now p.weights.now E

-- distinct slots, among them those of all conflicts, each with a weight, no more than that of the greatest cost
pub record IsProblem (p : Problem) : Type 0 where
  pub slots : IsOrder SLOTS p.order.now
  pub listed : ListsEach p.order.now (HasMember p.conflicts.now)
  pub weighed : length p.weights.now ≡ length p.order.now
  pub fit : (i : ℕ) → slice_index p.weights.now i ≤ MOST_WEIGHT
