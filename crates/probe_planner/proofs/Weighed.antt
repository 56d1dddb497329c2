-- The weights of the words at a cell, word after word.
use Rattle.std.proofs.Common.{◌≡◌, ℕ, List, [], ◌∷◌, ◌++◌, map, Option, Some, None, refl, sym, ap, ap₂, ◌∙◌, ◌≤◌, sum, arith}
use Rattle.std.proofs.lemmas.List.{map-append}
use Rattle.assumption_slots.specs.Slots.{stock}
use Rattle.circuit_model.specs.declared.model.Cell.{Cell}
use Rattle.circuit_model.specs.Closure.{fact}
use Rattle.circuit_model.specs.Stock.{within}
use Rattle.environment_sets.specs.declared.environment.Env.{Env}
use Rattle.environment_sets.specs.Costs.{cost_in}
use Rattle.environment_sets.specs.Members.{members}
use Rattle.environment_sets.proofs.Membership.{map-IsIn}
use Rattle.label_engine.specs.Engine.{Seen, label_of}
use Rattle.label_engine.specs.Questions.{IsNextNumber, GivesNextNumber, HasLabel}
use Rattle.standing_view.specs.Standing.{Stands, mask_of}
use Rattle.probe_planner.specs.declared.weights.Weighed.{Weighed}
use Rattle.probe_planner.specs.Covering.{covers, is_covered}
use Rattle.probe_planner.specs.Words.{CanBeScored, weight_of_word, AreWordWeights}
use Rattle.probe_planner.proofs.Covers.{ListsNumbers, no_numbers, more_numbers, all_numbers}
use Rattle.probe_planner.proofs.Scoring.{words_within, rising_distinct}

module _ (seen : Seen) (st : Stands) (w : Weighed) (c : Cell) where
  -- the weights of the words up to the last one
  pub record Weighs (last : Option ℕ) (weights : List ℕ) : Type 0 where
    pub words : List ℕ
    pub lists : ListsNumbers (HasLabel (within (mask_of st) (stock seen.slots)) c) last words
    pub each : weights ≡ map (weight_of_word seen w c) words

  pub weighs_none : Weighs None []
  weighs_none = record { words = []; lists = no_numbers _; each = refl }

  -- by the label that is kept, the weight is that of the word
  pub weight_is : (v : ℕ) (label : List Env) → label ≡ label_of seen.kept (fact c v) → cost_in w.rests.now w.weights.now (λ r. covers label (members r)) ≡ weight_of_word seen w c v
  unfolding is_covered
  weight_is v label same = ap (λ (es : List Env). cost_in w.rests.now w.weights.now (λ r. covers es (members r))) same

  pub weighs_more : (last : Option ℕ) (weights : List ℕ) → Weighs last weights → (v n : ℕ) → IsNextNumber (HasLabel (within (mask_of st) (stock seen.slots)) c) last v → n ≡ weight_of_word seen w c v → Weighs (Some v) (weights ++ n ∷ [])
  weighs_more last weights was v n next same = record {
    words = was.words ++ v ∷ [];
    lists = more_numbers _ last was.words was.lists v next;
    each = ap₂ (λ ns m. ns ++ m ∷ []) was.each same ∙ sym (map-append (weight_of_word seen w c) was.words (v ∷ []));
  }

  pub weighs_all : (last : Option ℕ) (weights : List ℕ) → Weighs last weights → GivesNextNumber (HasLabel (within (mask_of st) (stock seen.slots)) c) last None → AreWordWeights seen st w c weights
  weighs_all last weights was none = record { words = was.words; exact = all_numbers _ last was.words was.lists none; each = was.each }

  -- they are no more than the weight of all
  pub within_total : CanBeScored seen st w c → (weights : List ℕ) → AreWordWeights seen st w c weights → sum weights ≤ w.total
  within_total can weights are =
      let most : sum (map (weight_of_word seen w c) are.words) ≤ sum w.weights.now =
      words_within (λ v r. is_covered seen c v (members r)) are.words (rising_distinct are.words are.exact.rising) w.rests.now w.weights.now (λ r h u v a b. can.one_word (members r) (map-IsIn members w.rests.now r h) u v a b) in
      let same : sum weights ≡ sum (map (weight_of_word seen w c) are.words) = ap sum are.each in
      omega (arith, most, same, can.total)
