-- What diagnoses weigh, by their slots.
use Rattle.std.specs.Prelude.{◌≡◌, ℕ, ◌≤◌, ◌*◌, ◌^◌, List, map, sum}
use Rattle.circuit_model.specs.declared.limits.TheConstants.{MOST_COST, MOST_DIAGNOSES}
use Rattle.circuit_model.specs.Present.{PresentView, circuit_of}
use Rattle.circuit_model.specs.Probe.{positions_in, weight_for_cost}
use Rattle.environment_sets.specs.Costs.{cost_in}
use Rattle.environment_sets.specs.Members.{sets}
use Rattle.environment_sets.specs.Sets.{Set}
use Rattle.standing_view.specs.Positions.{positions}
use Rattle.standing_view.specs.Standing.{Stands}
use Rattle.probe_planner.specs.declared.weights.Weighed.{Weighed}
use Rattle.probe_planner.specs.Covering.{rest}

-- the cost of the components of these slots
unfoldable pub cost_at : Stands → PresentView → Set ℕ → ℕ
cost_at st s D = cost_in (positions_in (circuit_of s)) (circuit_of s).costs (positions st D)

-- and their weight
abbrev pub weight_at : Stands → PresentView → Set ℕ → ℕ
weight_at st s D = weight_for_cost (cost_at st s D)

-- each diagnosis by what stands outside it and by its weight, and the weight of all, which is small enough to be squared
pub record IsWeighed (st : Stands) (s : PresentView) (Ds : List (Set ℕ)) (w : Weighed) : Type 0 where
  pub rests : sets w.rests.now ≡ map (rest st) Ds
  pub weights : w.weights.now ≡ map (weight_at st s) Ds
  pub total : w.total ≡ sum w.weights.now
  pub few : w.total ≤ MOST_DIAGNOSES * 2 ^ MOST_COST
