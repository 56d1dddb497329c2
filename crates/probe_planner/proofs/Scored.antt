-- The scores that are computed are those of the cells.
use Rattle.std.proofs.Common.{◌≡◌, ℕ, ◌+◌, ◌*◌, inl, inr, Bool, IsTrue, List, [], ◌∷◌, length, map, sum, Option, Some, None, MatchOption, refl, sym, ap, ap₂, subst, ◌∙◌}
use Rattle.std.specs.List.{AllZip, sum_by}
use Rattle.std.proofs.lemmas.List.{length-map}
use Rattle.std.proofs.lemmas.List.Sums.{sum_by-cons}
use Rattle.assumption_slots.specs.Slots.{stock}
use Rattle.circuit_model.specs.declared.model.Cell.{Cell}
use Rattle.circuit_model.specs.Diagnoses.{Circuit, IsDiagnosis}
use Rattle.circuit_model.specs.Present.{PresentView, circuit_of}
use Rattle.circuit_model.specs.Probe.{Predicts, Prediction, IsPrediction, Gives, weight_of, IsScore, IsTotal, total_weight, word_weight}
use Rattle.circuit_model.proofs.Splitting.{one_word}
use Rattle.environment_sets.specs.Costs.{cost_in}
use Rattle.environment_sets.specs.Lists.{IsIn}
use Rattle.environment_sets.specs.Members.{members, sets}
use Rattle.environment_sets.specs.Sets.{Set}
use Rattle.environment_sets.proofs.CostSums.{cost_in-map}
use Rattle.environment_sets.proofs.Membership.{IsIn-map, map-IsIn, map_alike}
use Rattle.label_engine.specs.Engine.{Seen}
use Rattle.standing_view.specs.Positions.{positions}
use Rattle.standing_view.specs.Standing.{Stands}
use Rattle.standing_view.proofs.Named.{the_mask_is_remembered}
use Rattle.probe_planner.specs.declared.weights.Weighed.{Weighed}
use Rattle.probe_planner.specs.Covering.{is_covered, rest}
use Rattle.probe_planner.specs.Planning.{CanBePlanned}
use Rattle.probe_planner.specs.Weighing.{cost_at, weight_at}
use Rattle.probe_planner.specs.Words.{CanBeScored, weight_of_word, score_by, IsScored}
use Rattle.probe_planner.proofs.Predicting.{covers_predictions, covering_words}
use Rattle.probe_planner.proofs.Scoring.{score_by_words, first_word, first_word-sound, first_word-none, first_is_word, weight_by_sets, total_by_sets, rising_distinct}

-- what lists of images have, place by place
all_zip : {X Y Z : Type 0} (R : Y → Z → Type 0) (f : X → Y) (g : X → Z) (xs : List X) → ((x : X) → IsIn xs x → R (f x) (g x)) → AllZip R (map f xs) (map g xs)
all_zip R f g [] each = tt
all_zip R f g (x ∷ xs) each = (each x (inl refl), all_zip R f g xs (λ y h. each y (inr h)))

-- what holds of no word, or of the word
by_option : (o : Option ℕ) (A : Type 0) (B : ℕ → Type 0) → (o ≡ None → A) → ((v : ℕ) → o ≡ Some v → B v) → MatchOption o A B
by_option None A B none some = none refl
by_option (Some v) A B none some = some v refl

module _ (seen : Seen) (st : Stands) (s : PresentView) (w : Weighed) (can : CanBePlanned seen st s w) where
  abbrev P : Circuit
  P = circuit_of s

  -- each is a diagnosis of the present
  known_one : (D : Set ℕ) → IsIn can.diagnoses D → IsDiagnosis (circuit_of s) (positions st D)
  known_one D h = (can.known.exact (positions st D)).0 (map-IsIn (positions st) can.diagnoses D h)

  -- what stands outside one of them
  of_rest : (E : Set ℕ) → IsIn (sets w.rests.now) E → (D : Set ℕ) × IsIn can.diagnoses D × (rest st D ≡ E)
  of_rest E h = IsIn-map (rest st) can.diagnoses E (subst (λ (Es : List (Set ℕ)). IsIn Es E) can.weighed.rests h)

  -- a word whose label covers what stands outside a diagnosis is what the diagnosis predicts
  told : (c : Cell) (D : Set ℕ) → IsIn can.diagnoses D → (v : ℕ) → IsTrue (is_covered seen c v (rest st D)) → Predicts (circuit_of s) c (positions st D) v
  told c D h v = (covers_predictions (stock seen.slots) st s can.parked can.stands D (can.inside D h) (known_one D h) seen refl _ can.exact c v).0

  foretold : (c : Cell) (D : Set ℕ) → IsIn can.diagnoses D → (v : ℕ) → Predicts (circuit_of s) c (positions st D) v → IsTrue (is_covered seen c v (rest st D))
  foretold c D h v = (covers_predictions (stock seen.slots) st s can.parked can.stands D (can.inside D h) (known_one D h) seen refl _ can.exact c v).1

  one_at_most : (c : Cell) (D : Set ℕ) → IsIn can.diagnoses D → (u v : ℕ) → IsTrue (is_covered seen c u (rest st D)) → IsTrue (is_covered seen c v (rest st D)) → u ≡ v
  one_at_most c D h u v a b = one_word (circuit_of s) c (positions st D) (known_one D h) u v (told c D h u a) (told c D h v b)

  pub can_be_scored : (c : Cell) → CanBeScored seen st w c
  can_be_scored c = record {
    remembered = the_mask_is_remembered (stock seen.slots) st s can.parked can.stands;
    one_word = λ E h u v a b. let D = of_rest E h in one_at_most c D.0 D.1 u v (subst (λ (F : Set ℕ). IsTrue (is_covered seen c u F)) (sym D.2) a) (subst (λ (F : Set ℕ). IsTrue (is_covered seen c v F)) (sym D.2) b);
    as_many = ap length can.weighed.weights ∙ (length-map can.diagnoses (weight_at st s) ∙ (sym (length-map can.diagnoses (rest st)) ∙ (ap length (sym can.weighed.rests) ∙ length-map w.rests.now members)));
    total = can.weighed.total;
    few = can.weighed.few;
  }

  -- the weights of all, by the diagnoses
  total_of_all : (Ds : List (Set ℕ)) → sum (map (weight_at st s) Ds) ≡ sum_by (weight_of (circuit_of s)) (map (positions st) Ds)
  unfolding cost_at
  total_of_all [] = refl
  total_of_all (D ∷ Ds) =
      sum_by-cons (λ (n : ℕ). n) (weight_at st s D) (map (weight_at st s) Ds)
      ∙ (ap (λ n. weight_at st s D + n) (total_of_all Ds) ∙ sym (sum_by-cons (weight_of (circuit_of s)) (positions st D) (map (positions st) Ds)))

  pub total_is : IsTotal (circuit_of s) (w.total * w.total)
  total_is = record {
    diagnoses = map (positions st) can.diagnoses;
    exact = can.known;
    squared = ap (λ n. n * n) (can.weighed.total ∙ (ap sum can.weighed.weights ∙ total_of_all can.diagnoses));
  }

  weighs : (D : Set ℕ) → weight_at st s D ≡ weight_of (circuit_of s) (positions st D)
  unfolding cost_at
  weighs D = refl

  module _ (c : Cell) (words : List ℕ) where
    -- what the diagnosis predicts, by the words
    word_at : Set ℕ → Option ℕ
    word_at D = first_word (λ v. is_covered seen c v (rest st D)) words

    abbrev prediction_at : Set ℕ → Prediction
    prediction_at D = record { weight = weight_at st s D; word = word_at D }

    word_at-sound : (D : Set ℕ) (v : ℕ) → word_at D ≡ Some v → IsIn words v × IsTrue (is_covered seen c v (rest st D))
    unfolding word_at
    word_at-sound D v e = first_word-sound (λ v. is_covered seen c v (rest st D)) words v e

    word_at-none : (D : Set ℕ) → word_at D ≡ None → (v : ℕ) → IsIn words v → IsTrue (is_covered seen c v (rest st D)) → ⊥
    unfolding word_at
    word_at-none D e v h is = first_word-none (λ v. is_covered seen c v (rest st D)) words e v h is

    weight_by_words : (v : ℕ) → IsIn words v → weight_of_word seen w c v ≡ word_weight v (map prediction_at can.diagnoses)
    unfolding word_at
    weight_by_words v at =
        let test : Set ℕ → Bool = λ E. is_covered seen c v E in
        let by_sets : weight_of_word seen w c v ≡ cost_in (sets w.rests.now) w.weights.now test = sym (cost_in-map members w.rests.now w.weights.now test) in
        let by_rests : cost_in (sets w.rests.now) w.weights.now test ≡ cost_in (map (rest st) can.diagnoses) (map (weight_at st s) can.diagnoses) test = ap₂ (λ Es ns. cost_in Es ns test) can.weighed.rests can.weighed.weights in
        let by_diagnoses : cost_in (map (rest st) can.diagnoses) (map (weight_at st s) can.diagnoses) test ≡ cost_in can.diagnoses (map (weight_at st s) can.diagnoses) (λ D. test (rest st D)) = cost_in-map (rest st) can.diagnoses (map (weight_at st s) can.diagnoses) test in
        by_sets
        ∙ (by_rests
        ∙ (by_diagnoses
        ∙ weight_by_sets (weight_at st s) word_at v (λ D. test (rest st D)) can.diagnoses (λ D h. first_is_word (λ u. is_covered seen c u (rest st D)) words (one_at_most c D h) v at)))

  pub score_is : (c : Cell) (n : ℕ) → IsScored seen st w c n → IsScore (circuit_of s) c n
  score_is c n scored =
      let words = scored.exact.words in
      let ps : List Prediction = map (prediction_at c words) can.diagnoses in
      let weights : scored.weights ≡ map (λ v. word_weight v ps) words = scored.exact.each ∙ map_alike (weight_of_word seen w c) (λ v. word_weight v ps) words (λ v h. weight_by_words c words v h) in
      let all : w.total ≡ total_weight ps = can.weighed.total ∙ (ap sum can.weighed.weights ∙ sym (total_by_sets (weight_at st s) (word_at c words) can.diagnoses)) in
      record {
        diagnoses = map (positions st) can.diagnoses;
        exact = can.known;
        predictions = ps;
        each = all_zip (Gives (circuit_of s) c) (positions st) (prediction_at c words) can.diagnoses (λ D h. record { weight = weighs D; word = predicts words D h });
        total = scored.is ∙ (ap₂ score_by weights all ∙ sym (score_by_words words (rising_distinct words scored.exact.exact.rising) ps among));
      }
    where
      predicts : (words : List ℕ) (D : Set ℕ) → IsIn can.diagnoses D → IsPrediction (circuit_of s) c (positions st D) (word_at c scored.exact.words D)
      predicts words D h = by_option (word_at c scored.exact.words D) _ _
          (λ none v at. let covered : IsTrue (is_covered seen c v (rest st D)) = foretold c D h v at in
          word_at-none c scored.exact.words D none v ((scored.exact.exact.exact v).1 (covering_words (stock seen.slots) st s can.parked can.stands D (can.inside D h) seen _ can.exact c v covered)) covered)
          (λ v some. told c D h v (word_at-sound c scored.exact.words D v some).1)

      among : (p : Prediction) → IsIn (map (prediction_at c scored.exact.words) can.diagnoses) p → (v : ℕ) → p.word ≡ Some v → IsIn scored.exact.words v
      among p h v e =
          let D : (D : Set ℕ) × IsIn can.diagnoses D × (prediction_at c scored.exact.words D ≡ p) = IsIn-map (prediction_at c scored.exact.words) can.diagnoses p h in
          (word_at-sound c scored.exact.words D.0 v (ap (λ (q : Prediction). q.word) D.2 ∙ e)).0
