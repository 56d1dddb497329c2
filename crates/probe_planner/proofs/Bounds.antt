-- Bounds of scores and weights.
use Rattle.std.proofs.Common.{◌≡◌, ℕ, ◌+◌, ◌-◌, ◌*◌, ◌^◌, ◌<◌, ◌≤◌, ◌⊎◌, inl, inr, min, List, [], ◌∷◌, length, get_or, take, map, sum, refl, ap, subst, ◌∙◌, arith}
use Rattle.std.specs.List.{sum_by}
use Rattle.std.proofs.lemmas.List.{take_more, take_all, length-map}
use Rattle.std.proofs.lemmas.List.Sums.{sum_by-cons, sum_by-take-le, sum_by_push}
use Rattle.std.proofs.lemmas.Nat.{mul-le}
use Rattle.std.proofs.Math.Nat.{mul-le-mul_left, mul-le-mul_right}
use Rattle.std.proofs.Math.Pow.{pow-lt}
use Rattle.circuit_model.specs.declared.limits.TheConstants.{MOST_COST, MOST_DIAGNOSES}
use Rattle.circuit_model.specs.Present.{PresentView}
use Rattle.circuit_model.specs.Probe.{weight_for_cost}
use Rattle.environment_sets.specs.declared.environment.Env.{Env}
use Rattle.environment_sets.specs.Members.{members, sets}
use Rattle.environment_sets.specs.Sets.{Set}
use Rattle.standing_view.specs.Standing.{Stands}
use Rattle.probe_planner.specs.Weighing.{weight_at}
use Rattle.probe_planner.specs.Words.{score_with, score_by}
use Rattle.environment_sets.proofs.CostSums.{sum-cons}

-- what a word and all words after it count is no more than their weight, times the weight of all
words_le : (silent total : ℕ) (xs : List ℕ) → sum xs + silent ≤ total → sum_by (λ s. s * (s + silent)) xs ≤ sum xs * total
words_le silent total [] le = omega arith
words_le silent total (x ∷ xs) le =
    let all : sum (x ∷ xs) ≡ x + sum xs = sum-cons x xs in
    let first : x * (x + silent) ≤ x * total = mul-le-mul_left x (omega (arith, all, le)) in
    let rest : sum_by (λ s. s * (s + silent)) xs ≤ sum xs * total = words_le silent total xs (omega (arith, all, le)) in
    let split : (x + sum xs) * total ≡ x * total + sum xs * total = times x (sum xs) total in
    let one : sum_by (λ s. s * (s + silent)) (x ∷ xs) ≡ x * (x + silent) + sum_by (λ s. s * (s + silent)) xs = sum_by-cons (λ s. s * (s + silent)) x xs in
    let whole : sum (x ∷ xs) * total ≡ (x + sum xs) * total = ap (λ n. n * total) all in
    omega (arith, first, rest, split, one, whole)
  where
    times : (a b c : ℕ) → (a + b) * c ≡ a * c + b * c
    times a b c = grind arith

pub left_over : (a b : ℕ) → a ≤ b → a + (b - a) ≡ b
left_over a b le = omega arith

-- a score is below 2 ^ 128, so far as it is summed up
pub score_small : (silent total : ℕ) (words : List ℕ) (i : ℕ) → sum words + silent ≡ total → total ≤ MOST_DIAGNOSES * 2 ^ MOST_COST → silent * total + sum_by (λ s. s * (s + silent)) (take i words) < 2 ^ 128
score_small silent total words i all few =
    let some : sum (take i words) ≤ sum words = sum_by-take-le (λ (n : ℕ). n) words i in
    let le : sum_by (λ s. s * (s + silent)) (take i words) ≤ sum (take i words) * total = words_le silent total (take i words) (omega (arith, some, all)) in
    let both : (silent + sum (take i words)) * total ≤ total * total = mul-le-mul_right total (omega (arith, some, all)) in
    let split : (silent + sum (take i words)) * total ≡ silent * total + sum (take i words) * total = times silent (sum (take i words)) total in
    let square : total * total ≤ (MOST_DIAGNOSES * 2 ^ MOST_COST) * (MOST_DIAGNOSES * 2 ^ MOST_COST) = mul-le total total _ _ few few in
    omega (arith, le, both, split, square)
  where
    times : (a b c : ℕ) → (a + b) * c ≡ a * c + b * c
    times a b c = grind arith

pub score_step : (silent : ℕ) (words : List ℕ) (i : ℕ) → i < length words → sum_by (λ s. s * (s + silent)) (take (i + 1) words) ≡ sum_by (λ s. s * (s + silent)) (take i words) + get_or words i 0 * (get_or words i 0 + silent)
score_step silent words i low = ap (sum_by (λ s. s * (s + silent))) (take_more words i 0 low) ∙ sum_by_push (λ s. s * (s + silent)) (take i words) (get_or words i 0)

pub score_done : (silent total : ℕ) (words : List ℕ) (i score : ℕ) → length words ≤ i → silent ≡ total - sum words → score ≡ silent * total + sum_by (λ s. s * (s + silent)) (take i words) → score ≡ score_by words total
score_done silent total words i score high left so =
    so ∙ (ap (λ ns. silent * total + sum_by (λ s. s * (s + silent)) ns) (take_all i words high) ∙ ap (λ m. score_with m words total) left)

-- ---- weights

weight_most : (cost : ℕ) → weight_for_cost cost ≤ 2 ^ MOST_COST
unfolding weight_for_cost
weight_most cost = power (MOST_COST - min cost MOST_COST) (omega arith)
  where
    less_or_same : (k : ℕ) → k ≤ MOST_COST → (k < MOST_COST) ⊎ (k ≡ MOST_COST)
    less_or_same k le = grind arith

    power : (k : ℕ) → k ≤ MOST_COST → 2 ^ k ≤ 2 ^ MOST_COST
    power k le = elim (less_or_same k le) [ inl less ↦ let low : 2 ^ k < 2 ^ MOST_COST = pow-lt less in omega (arith, low) | inr same ↦ subst (λ (n : ℕ). 2 ^ k ≤ 2 ^ n) same (omega arith) ]

weights_most : (st : Stands) (s : PresentView) (Ds : List (Set ℕ)) → sum (map (weight_at st s) Ds) ≤ length Ds * 2 ^ MOST_COST
weights_most st s [] = omega arith
weights_most st s (D ∷ Ds) =
    let all : sum (map (weight_at st s) (D ∷ Ds)) ≡ weight_at st s D + sum (map (weight_at st s) Ds) = sum-cons (weight_at st s D) (map (weight_at st s) Ds) in
    let one : weight_at st s D ≤ 2 ^ MOST_COST = weight_most _ in
    let rest : sum (map (weight_at st s) Ds) ≤ length Ds * 2 ^ MOST_COST = weights_most st s Ds in
    omega (arith, all, one, rest)

pub weights_by_sets : (st : Stands) (s : PresentView) (ds : List Env) → map (λ e. weight_at st s (members e)) ds ≡ map (weight_at st s) (sets ds)
weights_by_sets st s [] = refl
weights_by_sets st s (d ∷ ds) = ap (λ ns. weight_at st s (members d) ∷ ns) (weights_by_sets st s ds)

-- the weight of all diagnoses
pub weights_few : (st : Stands) (s : PresentView) (ds : List Env) (weights : List ℕ) → length ds ≤ MOST_DIAGNOSES → weights ≡ map (λ e. weight_at st s (members e)) ds → sum weights ≤ MOST_DIAGNOSES * 2 ^ MOST_COST
weights_few st s ds weights few are =
    let same : sum weights ≡ sum (map (weight_at st s) (sets ds)) = ap sum (are ∙ weights_by_sets st s ds) in
    let most : sum (map (weight_at st s) (sets ds)) ≤ length (sets ds) * 2 ^ MOST_COST = weights_most st s (sets ds) in
    let many : length (sets ds) ≡ length ds = length-map ds members in
    omega (arith, same, most, many, few)
