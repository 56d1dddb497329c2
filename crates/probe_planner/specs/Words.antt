-- The weights of the words that are predicted at a cell, and the score by them.
use Rattle.std.specs.Prelude.{◌≡◌, ℕ, ◌+◌, ◌-◌, ◌*◌, ◌^◌, ◌<◌, ◌≤◌, List, length, map, sum}
use Rattle.std.specs.List.{sum_by}
use Rattle.assumption_slots.specs.Slots.{stock}
use Rattle.circuit_model.specs.declared.limits.TheConstants.{MOST_COST, MOST_DIAGNOSES}
use Rattle.circuit_model.specs.declared.model.Cell.{Cell}
use Rattle.circuit_model.specs.Stock.{IsEnvironment, within}
use Rattle.environment_sets.specs.Costs.{cost_in}
use Rattle.environment_sets.specs.Lists.{IsListing}
use Rattle.environment_sets.specs.Members.{members, sets}
use Rattle.label_engine.specs.Engine.{Seen}
use Rattle.label_engine.specs.Questions.{HasLabel}
use Rattle.standing_view.specs.Standing.{Stands, mask_of}
use Rattle.probe_planner.specs.declared.weights.Weighed.{Weighed}
use Rattle.probe_planner.specs.Covering.{is_covered, CoverOneWord}

-- what can be scored at the cell: what stands is remembered, each rest predicts one word at most and has its weight, and
-- the weight of all is small enough to be squared
pub record CanBeScored (seen : Seen) (st : Stands) (w : Weighed) (c : Cell) : Type 0 where
  pub remembered : IsEnvironment (stock seen.slots) (mask_of st)
  pub one_word : CoverOneWord seen c (sets w.rests.now)
  pub as_many : length w.weights.now ≡ length w.rests.now
  pub total : w.total ≡ sum w.weights.now
  pub few : w.total ≤ MOST_DIAGNOSES * 2 ^ MOST_COST

-- the weight of what predicts the word
abbrev pub weight_of_word : Seen → Weighed → Cell → ℕ → ℕ
weight_of_word seen w c v = cost_in w.rests.now w.weights.now (λ r. is_covered seen c v (members r))

-- for each word that has a label at the cell the weight of what predicts it, words rising
pub record AreWordWeights (seen : Seen) (st : Stands) (w : Weighed) (c : Cell) (weights : List ℕ) : Type 0 where
  pub words : List ℕ
  pub exact : IsListing (λ u v. u < v) (HasLabel (within (mask_of st) (stock seen.slots)) c) words
  pub each : weights ≡ map (weight_of_word seen w c) words

-- the score by the weights of the words and the weight of all: a word's weight counts for itself and for what is
-- silent, and what is silent counts for all
abbrev pub score_with : ℕ → List ℕ → ℕ → ℕ
score_with silent words total = silent * total + sum_by (λ s. s * (s + silent)) words

abbrev pub score_by : List ℕ → ℕ → ℕ
score_by words total = score_with (total - sum words) words total

-- the score of the cell
pub record IsScored (seen : Seen) (st : Stands) (w : Weighed) (c : Cell) (score : ℕ) : Type 0 where
  pub weights : List ℕ
  pub exact : AreWordWeights seen st w c weights
  pub is : score ≡ score_by weights w.total
