-- Where a measurement would tell diagnoses apart.
use Rattle.std.proofs.Common.{cond, ◌≡◌, ◌≢◌, ℕ, ◌+◌, ◌*◌, ◌<◌, ◌≤◌, ◌⊎◌, inl, inr, refl, sym, ap, ap₂, subst, ◌∙◌, List, [], ◌∷◌, length, Option, Some, None, arith}
use Rattle.std.proofs.lemmas.Bool.{cases_eq}
use Rattle.std.specs.List.{sum_by, AllZip}
use Rattle.std.proofs.lemmas.Bool.Decides.{nat_tests}
use Rattle.std.proofs.lemmas.List.Sums.{sum_by-cons}
use Rattle.std.proofs.lemmas.Nat.{pow_pos}
use Rattle.std.proofs.Math.Nat.{mul-le-mul_left}
use Rattle.environment_sets.specs.Sets.{Set, others}
use Rattle.environment_sets.specs.Lists.{IsIn}
use Rattle.environment_sets.proofs.Listings.{same_listing}
use Rattle.environment_sets.proofs.OrderLaws.{order_is_strict}
use Rattle.environment_sets.proofs.CostOrder.{cost_order_is_strict}
use Rattle.circuit_model.specs.declared.model.Cell.{Cell}
use Rattle.circuit_model.specs.Stock.{IsChosen}
use Rattle.circuit_model.specs.Diagnoses.{Circuit, stock_of, with_readings, IsConflict, IsDiagnosis}
use Rattle.circuit_model.specs.Probe.{positions_in, weight_for_cost, weight_of, Predicts, IsPrediction, Prediction, Gives, is_word, is_silent, total_weight, word_weight, silent_weight, agreeing_weight, score, AreDiagnoses, IsScore, IsTotal, DiagnosesHaveOneListing, ConflictsHaveOneListing, CellsHaveOneScore}
use Rattle.circuit_model.specs.Splitting.{AreWeighty, HasTwoWords, TwoWordsSplit, HasTwoPredictions, TwoPredictionsSplit}
use Rattle.circuit_model.proofs.Rounds.{Clashes-two_words}

-- what a prediction adds to the weight of those that predict v or nothing
abbrev part : ℕ → ℕ → Option ℕ → ℕ
part v w o = cond (is_word v o) w 0 + cond (is_silent o) w 0

part-same : (v u w : ℕ) → v ≡ u → part v w (Some u) ≡ w
part-same v u w e = grind (arith, nat_tests)

part-other : (v u w : ℕ) → v ≢ u → part v w (Some u) ≡ 0
part-other v u w d = grind (arith, nat_tests)

-- all of it, or none of it where another word is predicted
part_or_other : (v w : ℕ) (o : Option ℕ) → (part v w o ≡ w) ⊎ ((u : ℕ) × (o ≡ Some u) × (v ≢ u) × (part v w o ≡ 0))
part_or_other v w None = inl (omega arith)
part_or_other v w (Some u) = elim (cases_eq v u) [ inl e ↦ inl (part-same v u w e) | inr d ↦ inr (u, refl, d, part-other v u w d) ]

-- the weight of those that predict v or nothing
agreeing : ℕ → List Prediction → ℕ
agreeing v xs = word_weight v xs + silent_weight xs

agreeing-nil : (v : ℕ) → agreeing v [] ≡ 0
unfolding agreeing
agreeing-nil v = refl

agreeing-cons : (v : ℕ) (p : Prediction) (xs : List Prediction) → agreeing v (p ∷ xs) ≡ part v p.weight p.word + agreeing v xs
unfolding agreeing
agreeing-cons v p xs = omega (arith, sum_by-cons (λ (p : Prediction). cond (is_word v p.word) p.weight 0) p xs, sum_by-cons (λ (p : Prediction). cond (is_silent p.word) p.weight 0) p xs)

-- the weight of all
whole : List Prediction → ℕ
whole xs = total_weight xs

whole-nil : whole [] ≡ 0
unfolding whole
whole-nil = refl

whole-cons : (p : Prediction) (xs : List Prediction) → whole (p ∷ xs) ≡ p.weight + whole xs
unfolding whole
whole-cons p xs = sum_by-cons (λ (p : Prediction). p.weight) p xs

agreeing-le : (v : ℕ) (xs : List Prediction) → agreeing v xs ≤ whole xs
agreeing-le v [] = omega (arith, agreeing-nil v)
agreeing-le v (p ∷ xs) = elim (part_or_other v p.weight p.word) [
  | inl e ↦ omega (arith, e, agreeing-cons v p xs, whole-cons p xs, agreeing-le v xs)
  | inr other ↦ omega (arith, other.3, agreeing-cons v p xs, whole-cons p xs, agreeing-le v xs)
]

-- one that predicts another word does not agree
agreeing-lt : (v w : ℕ) (q : Prediction) (xs : List Prediction) → IsIn xs q → q.word ≡ Some w → v ≢ w → 1 ≤ q.weight → agreeing v xs < whole xs
agreeing-lt v w q [] h is d some = absurd h
agreeing-lt v w q (p ∷ xs) (inl e) is d some =
    let none : part v p.weight p.word ≡ 0 = ap (λ (r : Prediction). part v r.weight r.word) e ∙ (ap (part v q.weight) is ∙ part-other v w q.weight d) in
    let heavy : p.weight ≡ q.weight = ap (λ (r : Prediction). r.weight) e in
    omega (arith, none, heavy, agreeing-cons v p xs, whole-cons p xs, agreeing-le v xs)
agreeing-lt v w q (p ∷ xs) (inr h) is d some = elim (part_or_other v p.weight p.word) [
  | inl e ↦ omega (arith, e, agreeing-cons v p xs, whole-cons p xs, agreeing-lt v w q xs h is d some)
  | inr other ↦ omega (arith, other.3, agreeing-cons v p xs, whole-cons p xs, agreeing-lt v w q xs h is d some)
]

-- all agree, or some one predicts another word
agreeing_or_not : (v : ℕ) (xs : List Prediction) → (agreeing v xs ≡ whole xs) ⊎ ((q : Prediction) × (w : ℕ) × IsIn xs q × (q.word ≡ Some w) × (v ≢ w))
agreeing_or_not v [] = inl (omega (arith, agreeing-nil v, whole-nil))
agreeing_or_not v (p ∷ xs) = elim (part_or_other v p.weight p.word) [
  | inr other ↦ inr (p, other.0, inl refl, other.1, other.2)
  | inl e ↦ elim (agreeing_or_not v xs) [
    | inl all ↦ inl (omega (arith, e, agreeing-cons v p xs, whole-cons p xs, all))
    | inr other ↦ inr (other.0, other.1, inr other.2, other.3, other.4)
  ]
]

times_le : (w s t sum rest : ℕ) → s ≤ t → rest ≤ sum * t → w * s + rest ≤ (w + sum) * t
times_le w s t sum rest low le = let k : w * s ≤ w * t = mul-le-mul_left w low in let e : (w + sum) * t ≡ w * t + sum * t = grind arith in omega (arith, k, e)

times_lt : (w s t sum rest : ℕ) → 1 ≤ w → s < t → rest ≤ sum * t → w * s + rest < (w + sum) * t
times_lt w s t sum rest some low le =
    let k : w * (s + 1) ≤ w * t = mul-le-mul_left w (omega (arith, low)) in
    let e : (w + sum) * t ≡ w * t + sum * t = grind arith in
    let f : w * (s + 1) ≡ w * s + w = grind arith in
    omega (arith, k, e, f)

times_later : (w s t sum rest : ℕ) → s ≤ t → rest < sum * t → w * s + rest < (w + sum) * t
times_later w s t sum rest low less = let k : w * s ≤ w * t = mul-le-mul_left w low in let e : (w + sum) * t ≡ w * t + sum * t = grind arith in omega (arith, k, e)

times_eq : (w s t sum rest : ℕ) → s ≡ t → rest ≡ sum * t → w * s + rest ≡ (w + sum) * t
times_eq w s t sum rest same eq = rw (same, eq) (grind arith)

no_times : (t : ℕ) → 0 ≡ 0 * t
no_times t = grind arith

module _ (all : List Prediction) where
  agree : Option ℕ → ℕ
  agree o = agreeing_weight all o

  agree-none : agree None ≡ whole all
  unfolding agree whole
  agree-none = refl

  agree-some : (v : ℕ) → agree (Some v) ≡ agreeing v all
  unfolding agree agreeing
  agree-some v = refl

  agree-le : (o : Option ℕ) → agree o ≤ whole all
  agree-le None = omega (arith, agree-none)
  agree-le (Some v) = omega (arith, agree-some v, agreeing-le v all)

  total : List Prediction → ℕ
  total xs = sum_by (λ p. p.weight * agreeing_weight all p.word) xs

  total-nil : total [] ≡ 0
  unfolding total
  total-nil = refl

  total-cons : (p : Prediction) (xs : List Prediction) → total (p ∷ xs) ≡ p.weight * agree p.word + total xs
  unfolding total agree
  total-cons p xs = sum_by-cons (λ (p : Prediction). p.weight * agreeing_weight all p.word) p xs

  total-le : (xs : List Prediction) → total xs ≤ whole xs * whole all
  total-le [] = omega (arith, total-nil)
  total-le (p ∷ xs) = rw (total-cons p xs, whole-cons p xs) (times_le p.weight (agree p.word) (whole all) (whole xs) (total xs) (agree-le p.word) (total-le xs))

  total-lt : (p q : Prediction) (v w : ℕ) (xs : List Prediction) → IsIn xs p → p.word ≡ Some v → 1 ≤ p.weight → IsIn all q → q.word ≡ Some w → 1 ≤ q.weight → v ≢ w → total xs < whole xs * whole all
  total-lt p q v w [] h is some there word heavy d = absurd h
  total-lt p q v w (r ∷ xs) (inl e) is some there word heavy d =
      let less : agree r.word < whole all = subst (λ (o : Option ℕ). agree o < whole all) (sym (ap (λ (x : Prediction). x.word) e ∙ is)) (omega (arith, agree-some v, agreeing-lt v w q all there word d heavy)) in
      let weighty : 1 ≤ r.weight = subst (λ (n : ℕ). 1 ≤ n) (sym (ap (λ (x : Prediction). x.weight) e)) some in
      rw (total-cons r xs, whole-cons r xs) (times_lt r.weight (agree r.word) (whole all) (whole xs) (total xs) weighty less (total-le xs))
  total-lt p q v w (r ∷ xs) (inr h) is some there word heavy d =
      rw (total-cons r xs, whole-cons r xs) (times_later r.weight (agree r.word) (whole all) (whole xs) (total xs) (agree-le r.word) (total-lt p q v w xs h is some there word heavy d))

  abbrev Apart : List Prediction → Type 0
  Apart xs = (p : Prediction) × (v : ℕ) × (q : Prediction) × (w : ℕ) × IsIn xs p × (p.word ≡ Some v) × IsIn all q × (q.word ≡ Some w) × (v ≢ w)

  -- all go with the prediction, or it is a word and some one predicts another
  agree_or_not : (o : Option ℕ) → (agree o ≡ whole all) ⊎ ((v : ℕ) × (q : Prediction) × (w : ℕ) × (o ≡ Some v) × IsIn all q × (q.word ≡ Some w) × (v ≢ w))
  agree_or_not None = inl agree-none
  agree_or_not (Some v) = elim (agreeing_or_not v all) [
    | inl e ↦ inl (agree-some v ∙ e)
    | inr other ↦ inr (v, other.0, other.1, refl, other.2, other.3, other.4)
  ]

  total_or_apart : (xs : List Prediction) → (total xs ≡ whole xs * whole all) ⊎ Apart xs
  total_or_apart [] = inl (rw (total-nil, whole-nil) (no_times (whole all)))
  total_or_apart (p ∷ xs) = elim (agree_or_not p.word) [
    | inr other ↦ inr (p, other.0, other.1, other.2, inl refl, other.3, other.4, other.5, other.6)
    | inl same ↦ elim (total_or_apart xs) [
      | inl e ↦ inl (rw (total-cons p xs, whole-cons p xs) (times_eq p.weight (agree p.word) (whole all) (whole xs) (total xs) same e))
      | inr a ↦ inr (a.0, a.1, a.2, a.3, inr a.4, a.5, a.6, a.7, a.8)
    ]
  ]

  splits : total all < whole all * whole all → HasTwoWords all
  splits less = elim (total_or_apart all) [
    | inl e ↦ absurd (omega (arith, e))
    | inr a ↦ record { one = a.0; is_one = a.4; word = a.1; predicts = a.5; other = a.2; is_other = a.6; other_word = a.3; other_predicts = a.7; differ = a.8 }
  ]

pub score-le : (all : List Prediction) → score all ≤ total_weight all * total_weight all
unfolding total whole
score-le all = total-le all all

pub two_words_split : TwoWordsSplit
unfolding total whole
two_words_split all weighty = (
  λ less. splits all less,
  λ (two : HasTwoWords all). total-lt all two.one two.other two.word two.other_word all two.is_one two.predicts (weighty two.one two.is_one) two.is_other two.other_predicts (weighty two.other two.is_other) two.differ,
)

pub diagnoses_have_one_listing : DiagnosesHaveOneListing
diagnoses_have_one_listing P xs ys = same_listing _ (IsDiagnosis P) xs ys (cost_order_is_strict (positions_in P) P.costs)

pub conflicts_have_one_listing : ConflictsHaveOneListing
conflicts_have_one_listing P xs ys = same_listing _ (IsConflict P) xs ys (order_is_strict ℕ (positions_in P))

pub weight_for_cost-pos : (cost : ℕ) → 1 ≤ weight_for_cost cost
unfolding weight_for_cost
weight_for_cost-pos cost = pow_pos _

module _ (P : Circuit) (c : Cell) where
  -- a diagnosis predicts one word at most
  pub one_word : (D : Set ℕ) → IsDiagnosis P D → (v w : ℕ) → Predicts P c D v → Predicts P c D w → v ≡ w
  one_word D is v w low high = elim (cases_eq v w) [
    | inl e ↦ e
    | inr d ↦ absurd (is.minimal.holds (Clashes-two_words (IsChosen (stock_of P) (with_readings P (others (length P.parts) D))) (record {
      cell = c;
      low = v;
      high = w;
      low_holds = low;
      high_holds = high;
      differ = d;
    })))
  ]

  -- and so it gives one prediction
  one_prediction : (D : Set ℕ) → IsDiagnosis P D → (o p : Option ℕ) → IsPrediction P c D o → IsPrediction P c D p → o ≡ p
  one_prediction D is None None none nothing = refl
  one_prediction D is None (Some w) none predicts = absurd (none w predicts)
  one_prediction D is (Some v) None predicts none = absurd (none v predicts)
  one_prediction D is (Some v) (Some w) low high = ap Some (one_word D is v w low high)

  same_given : (D : Set ℕ) → IsDiagnosis P D → (p q : Prediction) → Gives P c D p → Gives P c D q → p ≡ q
  same_given D is p q g h = ap₂ (λ w o. record { weight = w; word = o }) (g.weight ∙ sym h.weight) (one_prediction D is p.word q.word g.word h.word)

  same_predictions : (Ds : List (Set ℕ)) → ((D : Set ℕ) → IsIn Ds D → IsDiagnosis P D) → (ps qs : List Prediction) → AllZip (Gives P c) Ds ps → AllZip (Gives P c) Ds qs → ps ≡ qs
  same_predictions [] are [] [] a b = refl
  same_predictions [] are [] (q ∷ qs) a b = absurd b
  same_predictions [] are (p ∷ ps) qs a b = absurd a
  same_predictions (D ∷ Ds) are [] qs a b = absurd a
  same_predictions (D ∷ Ds) are (p ∷ ps) [] a b = absurd b
  same_predictions (D ∷ Ds) are (p ∷ ps) (q ∷ qs) a b =
      ap₂ (λ x xs. x ∷ xs) (same_given D (are D (inl refl)) p q a.0 b.0) (same_predictions Ds (λ E h. are E (inr h)) ps qs a.1 b.1)

  -- the weights of predictions are those of the diagnoses
  pub same_weight : (Ds : List (Set ℕ)) (ps : List Prediction) → AllZip (Gives P c) Ds ps → total_weight ps ≡ sum_by (weight_of P) Ds
  same_weight [] [] each = refl
  same_weight [] (p ∷ ps) each = absurd each
  same_weight (D ∷ Ds) [] each = absurd each
  same_weight (D ∷ Ds) (p ∷ ps) each =
      sum_by-cons (λ (p : Prediction). p.weight) p ps ∙ (ap₂ (λ a b. a + b) each.0.weight (same_weight Ds ps each.1) ∙ sym (sum_by-cons (weight_of P) D Ds))

  weighty_given : (Ds : List (Set ℕ)) (ps : List Prediction) → AllZip (Gives P c) Ds ps → AreWeighty ps
  weighty_given [] [] each p h = absurd h
  weighty_given [] (q ∷ ps) each p h = absurd each
  weighty_given (D ∷ Ds) [] each p h = absurd each
  weighty_given (D ∷ Ds) (q ∷ ps) each p (inl e) = subst (λ (n : ℕ). 1 ≤ n) (sym each.0.weight ∙ ap (λ (x : Prediction). x.weight) e) (weight_for_cost-pos _)
  weighty_given (D ∷ Ds) (q ∷ ps) each p (inr h) = weighty_given Ds ps each.1 p h

  -- the diagnosis that gives the prediction
  giver : (Ds : List (Set ℕ)) (ps : List Prediction) → AllZip (Gives P c) Ds ps → (p : Prediction) → IsIn ps p → (D : Set ℕ) × IsIn Ds D × Gives P c D p
  giver [] [] each p h = absurd h
  giver [] (q ∷ ps) each p h = absurd each
  giver (D ∷ Ds) [] each p h = absurd each
  giver (D ∷ Ds) (q ∷ ps) each p (inl e) = (D, inl refl, subst (Gives P c D) e each.0)
  giver (D ∷ Ds) (q ∷ ps) each p (inr h) = let r : (D : Set ℕ) × IsIn Ds D × Gives P c D p = giver Ds ps each.1 p h in (r.0, inr r.1, r.2)

  -- the prediction that the diagnosis gives
  given : (Ds : List (Set ℕ)) (ps : List Prediction) → AllZip (Gives P c) Ds ps → (D : Set ℕ) → IsIn Ds D → (p : Prediction) × IsIn ps p × Gives P c D p
  given [] [] each D h = absurd h
  given [] (q ∷ ps) each D h = absurd each
  given (F ∷ Ds) [] each D h = absurd each
  given (F ∷ Ds) (q ∷ ps) each D (inl e) = let Q : Set ℕ → Type 0 = λ G. Gives P c G q in (q, inl refl, subst Q e each.0)
  given (F ∷ Ds) (q ∷ ps) each D (inr h) = let r : (p : Prediction) × IsIn ps p × Gives P c D p = given Ds ps each.1 D h in (r.0, inr r.1, r.2)

  word_given : (D : Set ℕ) (p : Prediction) (v : ℕ) → Gives P c D p → p.word ≡ Some v → Predicts P c D v
  word_given D p v g e = let Q : Option ℕ → Type 0 = λ o. IsPrediction P c D o in subst Q e g.word

  word_of : (D : Set ℕ) → IsDiagnosis P D → (v : ℕ) → Predicts P c D v → (o : Option ℕ) → IsPrediction P c D o → o ≡ Some v
  word_of D is v predicts o gives = one_prediction D is o (Some v) gives predicts

  module _ (Ds : List (Set ℕ)) (ps : List Prediction) (exact : AreDiagnoses P Ds) (each : AllZip (Gives P c) Ds ps) where
    predictions_of : HasTwoWords ps → HasTwoPredictions P c
    predictions_of two =
        let a = giver Ds ps each two.one two.is_one in
        let b = giver Ds ps each two.other two.is_other in record {
          diagnosis = a.0;
          is_diagnosis = (exact.exact a.0).0 a.1;
          word = two.word;
          predicts = word_given a.0 two.one two.word a.2 two.predicts;
          other = b.0;
          is_other = (exact.exact b.0).0 b.1;
          other_word = two.other_word;
          other_predicts = word_given b.0 two.other two.other_word b.2 two.other_predicts;
          differ = two.differ;
        }

    words_of : HasTwoPredictions P c → HasTwoWords ps
    words_of two =
        let a = given Ds ps each two.diagnosis ((exact.exact two.diagnosis).1 two.is_diagnosis) in
        let b = given Ds ps each two.other ((exact.exact two.other).1 two.is_other) in record {
          one = a.0;
          is_one = a.1;
          word = two.word;
          predicts = word_of two.diagnosis two.is_diagnosis two.word two.predicts a.0.word a.2.word;
          other = b.0;
          is_other = b.1;
          other_word = two.other_word;
          other_predicts = word_of two.other two.is_other two.other_word two.other_predicts b.0.word b.2.word;
          differ = two.differ;
        }

pub cells_have_one_score : CellsHaveOneScore
cells_have_one_score P c m n s t =
    let same : t.diagnoses ≡ s.diagnoses = diagnoses_have_one_listing P t.diagnoses s.diagnoses t.exact s.exact in
    let each : AllZip (Gives P c) s.diagnoses t.predictions = subst (λ (Ds : List (Set ℕ)). AllZip (Gives P c) Ds t.predictions) same t.each in
    s.total ∙ (ap score (same_predictions P c s.diagnoses (λ D h. (s.exact.exact D).0 h) s.predictions t.predictions s.each each) ∙ sym t.total)

-- the square of all weights, by the predictions of a cell
pub total_of_predictions : (P : Circuit) (c : Cell) (n total : ℕ) (s : IsScore P c n) → IsTotal P total → total_weight s.predictions * total_weight s.predictions ≡ total
total_of_predictions P c n total s t =
    let same : s.diagnoses ≡ t.diagnoses = diagnoses_have_one_listing P s.diagnoses t.diagnoses s.exact t.exact in
    let weight : total_weight s.predictions ≡ sum_by (weight_of P) t.diagnoses = same_weight P c s.diagnoses s.predictions s.each ∙ ap (sum_by (weight_of P)) same in
    ap (λ k. k * k) weight ∙ sym t.squared

pub two_predictions_split : TwoPredictionsSplit
two_predictions_split P c n total s t =
    let square : total_weight s.predictions * total_weight s.predictions ≡ total = total_of_predictions P c n total s t in
    let split = two_words_split s.predictions (weighty_given P c s.diagnoses s.predictions s.each) in
    let R : ℕ → Type 0 = λ k. k < total in
    let Q : ℕ → Type 0 = λ k. score s.predictions < k in (
      λ (less : n < total). predictions_of P c s.diagnoses s.predictions s.exact s.each (split.0 (subst Q (sym square) (subst R s.total less))),
      λ (two : HasTwoPredictions P c). subst R (sym s.total) (subst Q square (split.1 (words_of P c s.diagnoses s.predictions s.exact s.each two))),
    )
