-- The score, word by word.
use Rattle.std.proofs.Common.{◌≡◌, ℕ, ◌+◌, ◌-◌, ◌*◌, ◌≤◌, ◌<◌, inl, inr, Bool, true, false, cond, ◌==◌, IsTrue, List, [], ◌∷◌, map, Option, Some, None, sum, refl, sym, ap, ap₂, subst, ◌∙◌, arith, zero-add}
use Rattle.std.specs.List.{sum_by}
use Rattle.std.proofs.lemmas.Bool.{false_from_ne_true, eqb-true, eq-eqb}
use Rattle.std.proofs.lemmas.Bool.Decides.{nat_tests}
use Rattle.std.proofs.lemmas.List.Sums.{sum_by-cons, sum-map}
use Rattle.environment_sets.specs.Costs.{cost_in}
use Rattle.environment_sets.specs.Lists.{IsIn, IsRising, AreDistinct}
use Rattle.environment_sets.proofs.Membership.{same_bool}
use Rattle.circuit_model.specs.Probe.{Prediction, is_word, is_silent, total_weight, word_weight, silent_weight, agreeing_weight, score}
use Rattle.probe_planner.specs.Words.{score_with, score_by}
use Rattle.environment_sets.proofs.CostSums.{sum-cons}

-- ---- sums of products

-- the sum of the products
sum_of : (ℕ → ℕ) → (ℕ → ℕ) → List ℕ → ℕ
sum_of a g vs = sum_by (λ v. a v * g v) vs

sum_of-nil : (a g : ℕ → ℕ) → sum_of a g [] ≡ 0
unfolding sum_of
sum_of-nil a g = refl

sum_of-cons : (a g : ℕ → ℕ) (v : ℕ) (vs : List ℕ) → sum_of a g (v ∷ vs) ≡ a v * g v + sum_of a g vs
unfolding sum_of
sum_of-cons a g v vs = sum_by-cons (λ v. a v * g v) v vs

sum_of-agree : (a b g : ℕ → ℕ) (vs : List ℕ) → ((v : ℕ) → IsIn vs v → a v ≡ b v) → sum_of a g vs ≡ sum_of b g vs
sum_of-agree a b g [] same = sum_of-nil a g ∙ sym (sum_of-nil b g)
sum_of-agree a b g (v ∷ vs) same =
    sum_of-cons a g v vs ∙ (ap₂ (λ x y. x * g v + y) (same v (inl refl)) (sum_of-agree a b g vs (λ w h. same w (inr h))) ∙ sym (sum_of-cons b g v vs))

sum_of-none : (a g : ℕ → ℕ) (vs : List ℕ) → ((v : ℕ) → a v ≡ 0) → sum_of a g vs ≡ 0
sum_of-none a g [] none = sum_of-nil a g
sum_of-none a g (v ∷ vs) none = sum_of-cons a g v vs ∙ rw (none v, sum_of-none a g vs none) (nothing (g v))
  where
    nothing : (x : ℕ) → 0 * x + 0 ≡ 0
    nothing x = grind arith

-- more at one of the words
module _ (a b g : ℕ → ℕ) (u w : ℕ) (same : b u ≡ w + a u) (others : (v : ℕ) → (v ≡ u → ⊥) → b v ≡ a v) where
  sum_of-add : (vs : List ℕ) → AreDistinct vs → IsIn vs u → sum_of b g vs ≡ w * g u + sum_of a g vs
  sum_of-add [] apart h = absurd h
  sum_of-add (v ∷ vs) apart (inl e) =
      let head : b v ≡ w + a v = subst (λ (k : ℕ). b k ≡ w + a k) (sym e) same in
      let tail : sum_of b g vs ≡ sum_of a g vs = sum_of-agree b a g vs (λ k h. others k (λ f. apart.0 k h (e ∙ sym f))) in
      let there : g v ≡ g u = ap g e in
      sum_of-cons b g v vs ∙ (rw (head, tail, there) (first_of (a v) (g u) (sum_of a g vs)) ∙ ap (λ n. w * g u + n) (ap (λ k. a v * k + sum_of a g vs) (sym there) ∙ sym (sum_of-cons a g v vs)))
    where
      first_of : (x y n : ℕ) → (w + x) * y + n ≡ w * y + (x * y + n)
      first_of x y n = grind arith
  sum_of-add (v ∷ vs) apart (inr h) =
      let head : b v ≡ a v = others v (λ e. apart.0 u h e) in
      sum_of-cons b g v vs ∙ (rw (head, sum_of-add vs apart.1 h) (later_of (a v * g v) (w * g u) (sum_of a g vs)) ∙ ap (λ n. w * g u + n) (sym (sum_of-cons a g v vs)))
    where
      later_of : (x y n : ℕ) → x + (y + n) ≡ y + (x + n)
      later_of x y n = omega arith

-- ---- predictions by their words

-- the weight of those that predict the word
weight_for : ℕ → List Prediction → ℕ
weight_for v ps = word_weight v ps

weight_for-nil : (v : ℕ) → weight_for v [] ≡ 0
unfolding weight_for
weight_for-nil v = refl

weight_for-cons : (v : ℕ) (p : Prediction) (ps : List Prediction) → weight_for v (p ∷ ps) ≡ cond (is_word v p.word) p.weight 0 + weight_for v ps
unfolding weight_for
weight_for-cons v p ps = sum_by-cons (λ (p : Prediction). cond (is_word v p.word) p.weight 0) p ps

silent : List Prediction → ℕ
silent ps = silent_weight ps

silent-nil : silent [] ≡ 0
unfolding silent
silent-nil = refl

silent-cons : (p : Prediction) (ps : List Prediction) → silent (p ∷ ps) ≡ cond (is_silent p.word) p.weight 0 + silent ps
unfolding silent
silent-cons p ps = sum_by-cons (λ (p : Prediction). cond (is_silent p.word) p.weight 0) p ps

word_is : (u w : ℕ) → cond (u == u) w 0 ≡ w
word_is u w = grind (arith, nat_tests)

word_is_not : (v u w : ℕ) → (v ≡ u → ⊥) → cond (v == u) w 0 ≡ 0
word_is_not v u w d = grind (arith, nat_tests)

mute : (w x n m : ℕ) → w * x + (n + m * x) ≡ n + (w + m) * x
mute w x n m = grind arith

told : (x n m : ℕ) → x + (n + m) ≡ x + n + m
told x n m = omega arith

-- a sum over predictions, each with its weight, is one over their words
module _ (h : Option ℕ → ℕ) (vs : List ℕ) (apart : AreDistinct vs) where
  sum_over : List Prediction → ℕ
  sum_over ps = sum_by (λ p. p.weight * h p.word) ps

  sum_over-nil : sum_over [] ≡ 0
  unfolding sum_over
  sum_over-nil = refl

  sum_over-cons : (p : Prediction) (ps : List Prediction) → sum_over (p ∷ ps) ≡ p.weight * h p.word + sum_over ps
  unfolding sum_over
  sum_over-cons p ps = sum_by-cons (λ (p : Prediction). p.weight * h p.word) p ps

  abbrev words_sum : List Prediction → ℕ
  words_sum ps = sum_of (λ v. weight_for v ps) (λ v. h (Some v)) vs

  abbrev AreAmong : List Prediction → Type 0
  AreAmong ps = (p : Prediction) → IsIn ps p → (v : ℕ) → p.word ≡ Some v → IsIn vs v

  by_words : (ps : List Prediction) → AreAmong ps → sum_over ps ≡ words_sum ps + silent ps * h None
  by_words [] among = rw (sum_over-nil, sum_of-none (λ v. weight_for v []) (λ v. h (Some v)) vs weight_for-nil, silent-nil) (nothing (h None))
    where
      nothing : (x : ℕ) → 0 ≡ 0 + 0 * x
      nothing x = grind arith
  by_words (p ∷ ps) among =
      let rest : sum_over ps ≡ words_sum ps + silent ps * h None = by_words ps (λ q i. among q (inr i)) in
      elim p.word as (λ o. p.word ≡ o → sum_over (p ∷ ps) ≡ words_sum (p ∷ ps) + silent (p ∷ ps) * h None) [
        | None ↦ λ is.
            let same : words_sum (p ∷ ps) ≡ words_sum ps = sum_of-agree (λ v. weight_for v (p ∷ ps)) (λ v. weight_for v ps) (λ v. h (Some v)) vs (λ v _. weight_for-cons v p ps ∙ (ap (λ o. cond (is_word v o) p.weight 0 + weight_for v ps) is ∙ zero-add (weight_for v ps))) in
            let more : silent (p ∷ ps) ≡ p.weight + silent ps = silent-cons p ps ∙ ap (λ o. cond (is_silent o) p.weight 0 + silent ps) is in
            let here : sum_over (p ∷ ps) ≡ p.weight * h None + sum_over ps = sum_over-cons p ps ∙ ap (λ o. p.weight * h o + sum_over ps) is in
            rw (here, same, more, rest) (mute p.weight (h None) (words_sum ps) (silent ps))
        | Some u ↦ λ is.
            let same : silent (p ∷ ps) ≡ silent ps = silent-cons p ps ∙ (ap (λ o. cond (is_silent o) p.weight 0 + silent ps) is ∙ zero-add (silent ps)) in
            let at : (v : ℕ) → weight_for v (p ∷ ps) ≡ cond (v == u) p.weight 0 + weight_for v ps = λ v. weight_for-cons v p ps ∙ ap (λ o. cond (is_word v o) p.weight 0 + weight_for v ps) is in
            let more : words_sum (p ∷ ps) ≡ p.weight * h (Some u) + words_sum ps =
            sum_of-add (λ v. weight_for v ps) (λ v. weight_for v (p ∷ ps)) (λ v. h (Some v)) u p.weight (at u ∙ ap (λ n. n + weight_for u ps) (word_is u p.weight)) (λ v d. at v ∙ (ap (λ n. n + weight_for v ps) (word_is_not v u p.weight d) ∙ zero-add (weight_for v ps))) vs apart (among p (inl refl) u is) in
            let here : sum_over (p ∷ ps) ≡ p.weight * h (Some u) + sum_over ps = sum_over-cons p ps ∙ ap (λ o. p.weight * h o + sum_over ps) is in
            rw (here, same, more, rest) (told (p.weight * h (Some u)) (words_sum ps) (silent ps * h None))
      ] refl

sum_with_one : (a : ℕ → ℕ) (vs : List ℕ) → sum_of a (λ _. 1) vs ≡ sum_by a vs
unfolding sum_of
sum_with_one a [] = refl
sum_with_one a (v ∷ vs) = sum_by-cons (λ v. a v * 1) v vs ∙ (ap₂ (λ x y. x + y) (once (a v)) (sum_with_one a vs) ∙ sym (sum_by-cons a v vs))
  where
    once : (x : ℕ) → x * 1 ≡ x
    once x = omega arith

total_with_one : (ps : List Prediction) → sum_by (λ p. p.weight * 1) ps ≡ total_weight ps
total_with_one [] = refl
total_with_one (p ∷ ps) = sum_by-cons (λ (p : Prediction). p.weight * 1) p ps ∙ (ap₂ (λ x y. x + y) (once p.weight) (total_with_one ps) ∙ sym (sum_by-cons (λ (p : Prediction). p.weight) p ps))
  where
    once : (x : ℕ) → x * 1 ≡ x
    once x = omega arith

products : (a : ℕ → ℕ) (m : ℕ) (vs : List ℕ) → sum_of a (λ v. a v + m) vs ≡ sum_by (λ s. s * (s + m)) (map a vs)
unfolding sum_of
products a m [] = refl
products a m (v ∷ vs) = sum_by-cons (λ v. a v * (a v + m)) v vs ∙ (ap (λ n. a v * (a v + m) + n) (products a m vs) ∙ sym (sum_by-cons (λ s. s * (s + m)) (a v) (map a vs)))

module _ (vs : List ℕ) (apart : AreDistinct vs) (ps : List Prediction) (among : (p : Prediction) → IsIn ps p → (v : ℕ) → p.word ≡ Some v → IsIn vs v) where
  -- the weights of words and what is silent are all
  pub weights_are_all : sum (map (λ v. word_weight v ps) vs) + silent_weight ps ≡ total_weight ps
  unfolding weight_for silent sum_over
  weights_are_all =
      let all : sum_by (λ p. p.weight * 1) ps ≡ sum_of (λ v. word_weight v ps) (λ _. 1) vs + silent_weight ps * 1 = by_words (λ _. 1) vs apart ps among in
      let one : silent_weight ps * 1 ≡ silent_weight ps = omega arith in
      ap₂ (λ x y. x + y) (sum-map (λ v. word_weight v ps) vs ∙ sym (sum_with_one (λ v. word_weight v ps) vs)) (sym one) ∙ (sym all ∙ total_with_one ps)

  pub score_by_words : score ps ≡ score_by (map (λ v. word_weight v ps) vs) (total_weight ps)
  unfolding weight_for silent sum_over
  score_by_words =
      let all : score ps ≡ sum_of (λ v. word_weight v ps) (λ v. word_weight v ps + silent_weight ps) vs + silent_weight ps * total_weight ps = by_words (agreeing_weight ps) vs apart ps among in
      let left : total_weight ps - sum (map (λ v. word_weight v ps) vs) ≡ silent_weight ps = difference _ _ _ weights_are_all in
      all
      ∙ (ap (λ n. n + silent_weight ps * total_weight ps) (products (λ v. word_weight v ps) (silent_weight ps) vs)
      ∙ (turned _ _ ∙ ap (λ m. score_with m (map (λ v. word_weight v ps) vs) (total_weight ps)) (sym left)))
    where
      difference : (a b c : ℕ) → a + b ≡ c → c - a ≡ b
      difference a b c e = omega (arith, e)

      turned : (a b : ℕ) → a + b ≡ b + a
      turned a b = omega arith

-- ---- the first word of a list that passes

pub first_word : (ℕ → Bool) → List ℕ → Option ℕ
first_word test [] = None
first_word test (v ∷ vs) = cond (test v) (Some v) (first_word test vs)

pub first_word-cons : (test : ℕ → Bool) (v : ℕ) (vs : List ℕ) → first_word test (v ∷ vs) ≡ cond (test v) (Some v) (first_word test vs)
unfolding first_word
first_word-cons test v vs = refl

pub first_word-sound : (test : ℕ → Bool) (vs : List ℕ) (v : ℕ) → first_word test vs ≡ Some v → IsIn vs v × IsTrue (test v)
unfolding first_word
first_word-sound test [] v e = absurd (cc)
first_word-sound test (u ∷ vs) v e =
    elim (test u) as (λ b. test u ≡ b → cond b (Some u) (first_word test vs) ≡ Some v → IsIn (u ∷ vs) v × IsTrue (test v)) [
      | true ↦ λ is f. let same : u ≡ v = cc in (inl same, subst (λ (k : ℕ). IsTrue (test k)) same is)
      | false ↦ λ _ f. let r : IsIn vs v × IsTrue (test v) = first_word-sound test vs v f in (inr r.0, r.1)
    ] refl e

pub first_word-none : (test : ℕ → Bool) (vs : List ℕ) → first_word test vs ≡ None → (v : ℕ) → IsIn vs v → IsTrue (test v) → ⊥
unfolding first_word
first_word-none test [] e v h is = absurd h
first_word-none test (u ∷ vs) e v h is =
    elim (test u) as (λ b. test u ≡ b → cond b (Some u) (first_word test vs) ≡ None → ⊥) [
      | true ↦ λ _ f. absurd (cc)
      | false ↦ λ out f. elim h [
        | inl same ↦ let both : true ≡ false = sym is ∙ (ap test (sym same) ∙ out) in absurd (cc)
        | inr later ↦ first_word-none test vs f v later is
      ]
    ] refl e

-- where one word passes at most, a word of the list passes exactly where it is the first
pub first_is_word : (test : ℕ → Bool) (vs : List ℕ) → ((u v : ℕ) → IsTrue (test u) → IsTrue (test v) → u ≡ v) → (v : ℕ) → IsIn vs v → test v ≡ is_word v (first_word test vs)
first_is_word test vs one v h =
    elim (first_word test vs) as (λ o. first_word test vs ≡ o → test v ≡ is_word v o) [
      | None ↦ λ none. same_bool (test v) false (λ is. absurd (first_word-none test vs none v h is)) (λ is. absurd (cc))
      | Some w ↦ λ some. same_bool (test v) (v == w) (λ is. eq-eqb v w (one v w is (first_word-sound test vs w some).1)) (λ is. subst (λ (k : ℕ). IsTrue (test k)) (sym (eqb-true v w is)) (first_word-sound test vs w some).1)
    ] refl

-- ---- the weight of a word, by the diagnoses

pub weight_by_sets : {X : Type 0} (W : X → ℕ) (word : X → Option ℕ) (v : ℕ) (test : X → Bool) (Ds : List X) → ((D : X) → IsIn Ds D → test D ≡ is_word v (word D)) → cost_in Ds (map W Ds) test ≡ word_weight v (map (λ D. record { weight = W D; word = word D }) Ds)
weight_by_sets W word v test [] same = refl
weight_by_sets W word v test (D ∷ Ds) same =
    ap₂ (λ b n. cond b (W D) 0 + n) (same D (inl refl)) (weight_by_sets W word v test Ds (λ E h. same E (inr h)))
    ∙ sym (sum_by-cons (λ (p : Prediction). cond (is_word v p.word) p.weight 0) (record { weight = W D; word = word D }) (map (λ D. record { weight = W D; word = word D }) Ds))

pub total_by_sets : {X : Type 0} (W : X → ℕ) (word : X → Option ℕ) (Ds : List X) → total_weight (map (λ D. record { weight = W D; word = word D }) Ds) ≡ sum (map W Ds)
total_by_sets W word [] = refl
total_by_sets W word (D ∷ Ds) =
    sum_by-cons (λ (p : Prediction). p.weight) (record { weight = W D; word = word D }) (map (λ D. record { weight = W D; word = word D }) Ds)
    ∙ (ap (λ n. W D + n) (total_by_sets W word Ds) ∙ sym (sum_by-cons (λ (n : ℕ). n) (W D) (map W Ds)))

-- ---- words of one weight each

sum_none : {X : Type 0} (f : X → ℕ) (vs : List X) → ((v : X) → IsIn vs v → f v ≡ 0) → sum (map f vs) ≡ 0
sum_none f [] none = refl
sum_none f (v ∷ vs) none = sum-cons (f v) (map f vs) ∙ (ap₂ (λ x y. x + y) (none v (inl refl)) (sum_none f vs (λ u h. none u (inr h))) ∙ zero-add 0)

sum_both : {X : Type 0} (f g : X → ℕ) (vs : List X) → sum (map (λ v. f v + g v) vs) ≡ sum (map f vs) + sum (map g vs)
sum_both f g [] = sym (zero-add 0)
sum_both f g (v ∷ vs) =
    sum-cons (f v + g v) (map (λ v. f v + g v) vs)
    ∙ (ap (λ n. f v + g v + n) (sum_both f g vs) ∙ (crossed (f v) (g v) (sum (map f vs)) (sum (map g vs)) ∙ ap₂ (λ x y. x + y) (sym (sum-cons (f v) (map f vs))) (sym (sum-cons (g v) (map g vs)))))
  where
    crossed : (a b c d : ℕ) → a + b + (c + d) ≡ a + c + (b + d)
    crossed a b c d = omega arith

-- at most one of distinct words passes, so its weight counts once
sum_once : (test : ℕ → Bool) (w : ℕ) (vs : List ℕ) → AreDistinct vs → ((u v : ℕ) → IsTrue (test u) → IsTrue (test v) → u ≡ v) → sum (map (λ v. cond (test v) w 0) vs) ≤ w
sum_once test w [] apart one = omega arith
sum_once test w (v ∷ vs) apart one =
    let rest : sum (map (λ v. cond (test v) w 0) vs) ≤ w = sum_once test w vs apart.1 one in
    subst (λ (n : ℕ). n ≤ w) (sym (sum-cons (cond (test v) w 0) (map (λ v. cond (test v) w 0) vs)))
    (elim (test v) as (λ b. test v ≡ b → cond b w 0 + sum (map (λ v. cond (test v) w 0) vs) ≤ w) [
      | true ↦ λ is. let none : sum (map (λ v. cond (test v) w 0) vs) ≡ 0 = sum_none (λ v. cond (test v) w 0) vs (λ u h. ap (λ b. cond b w 0) (false_from_ne_true (test u) (λ at. apart.0 u h (one v u is at)))) in omega (arith, none)
      | false ↦ λ _. omega (arith, rest)
    ] refl)

-- the weights of the words are no more than all, where one word passes at most of each set
pub words_within : {X : Type 0} (test : ℕ → X → Bool) (vs : List ℕ) (apart : AreDistinct vs) (rs : List X) (ws : List ℕ) → ((r : X) → IsIn rs r → (u v : ℕ) → IsTrue (test u r) → IsTrue (test v r) → u ≡ v) → sum (map (λ v. cost_in rs ws (test v)) vs) ≤ sum ws
words_within test vs apart [] ws one = let none : sum (map (λ v. cost_in [] ws (test v)) vs) ≡ 0 = sum_none (λ v. cost_in [] ws (test v)) vs (λ v h. refl) in omega (arith, none)
words_within test vs apart (r ∷ rs) [] one = let none : sum (map (λ v. cost_in (r ∷ rs) [] (test v)) vs) ≡ 0 = sum_none (λ v. cost_in (r ∷ rs) [] (test v)) vs (λ v h. refl) in omega (arith, none)
words_within test vs apart (r ∷ rs) (w ∷ ws) one =
    let both : sum (map (λ v. cond (test v r) w 0 + cost_in rs ws (test v)) vs) ≡ sum (map (λ v. cond (test v r) w 0) vs) + sum (map (λ v. cost_in rs ws (test v)) vs) = sum_both (λ v. cond (test v r) w 0) (λ v. cost_in rs ws (test v)) vs in
    let once : sum (map (λ v. cond (test v r) w 0) vs) ≤ w = sum_once (λ v. test v r) w vs apart (one r (inl refl)) in
    let later : sum (map (λ v. cost_in rs ws (test v)) vs) ≤ sum ws = words_within test vs apart rs ws (λ q h. one q (inr h)) in
    let all : sum (w ∷ ws) ≡ w + sum ws = sum-cons w ws in
    omega (arith, both, once, later, all)

-- numbers that rise are distinct
pub rising_distinct : (vs : List ℕ) → IsRising (λ u v. u < v) vs → AreDistinct vs
rising_distinct [] up = tt
rising_distinct (v ∷ vs) up = (λ u h e. let low : v < u = up.0 u h in absurd (omega (arith, low, e)), rising_distinct vs up.1)
