-- The order by weight is the order by cost.
use Rattle.std.proofs.Common.{◌≡◌, ℕ, zero, suc, ◌+◌, ◌*◌, ◌<◌, ◌≤◌, inl, inr, List, [], ◌∷◌, length, get_or, map, Ordering, Less, nat_cmp, sym, ap, subst, ◌∙◌, arith}
use Rattle.std.specs.List.{count_by}
use Rattle.std.proofs.lemmas.Bool.{cases_order}
use Rattle.std.proofs.lemmas.Bool.Decides.{nat_tests}
use Rattle.std.proofs.lemmas.List.{length-map}
use Rattle.environment_sets.specs.declared.environment.TheConstants.{SLOTS}
use Rattle.environment_sets.specs.Sets.{Set}
use Rattle.environment_sets.specs.Members.{HasMember}
use Rattle.environment_sets.specs.Orders.{IsOrder, ListsAll, first_of_both, by_first}
use Rattle.environment_sets.specs.Costs.{cost_in, ComesBeforeByCost, ListsEach}
use Rattle.diagnosis_order.proofs.Sums.{cost_bound}
use Rattle.first_diagnoses.specs.declared.problem.Problem.{Problem}
use Rattle.first_diagnoses.specs.declared.problem.TheConstants.{COST_UNIT, MOST_WEIGHT}
use Rattle.first_diagnoses.specs.Weights.{weight_for, weight_in, IsProblem}
use Rattle.first_diagnoses.specs.Rounds.{ComesByWeight}
use Rattle.first_diagnoses.proofs.Sums.{cost_weighed}

smaller_first : (m n : ℕ) (o : Ordering) → m < n → first_of_both (nat_cmp m n) o ≡ Less
smaller_first m n o less = grind (arith, nat_tests)

same_size_first : (m n : ℕ) (o : Ordering) → m ≡ n → o ≡ Less → first_of_both (nat_cmp m n) o ≡ Less
same_size_first m n o same first = grind (arith, nat_tests)

-- what holds of each cost holds of each weight
map_most : (f : ℕ → ℕ) (most : ℕ) (costs : List ℕ) → ((i : ℕ) → f (get_or costs i 0) ≤ most) → (i : ℕ) → get_or (map f costs) i 0 ≤ most
map_most f most [] each i = omega arith
map_most f most (cost ∷ costs) each zero = each 0
map_most f most (cost ∷ costs) each (suc i) = map_most f most costs (λ j. each (suc j)) i

-- weights from costs make a problem
pub weighed_problem : (p : Problem) (costs : List ℕ) → IsOrder SLOTS p.order.now → ListsEach p.order.now (HasMember p.conflicts.now) → length costs ≡ length p.order.now → ((i : ℕ) → get_or costs i 0 < 256) → p.weights.now ≡ map weight_for costs → IsProblem p
weighed_problem p costs slots listed long small made =
    record {
      slots = slots;
      listed = listed;
      weighed = ap length made ∙ (length-map costs weight_for ∙ long);
      fit = subst (λ (weights : List ℕ). (i : ℕ) → get_or weights i 0 ≤ MOST_WEIGHT) (sym made) (map_most weight_for MOST_WEIGHT costs (λ i. omega (arith, small i)));
    }

module _ (order costs : List ℕ) (slots : IsOrder SLOTS order) (long : length costs ≡ length order) where
  -- a set of listed slots has no more than there are
  few_slots : (E : Set ℕ) → ListsAll order E → count_by E order ≤ SLOTS
  few_slots E all =
      let one : ℕ → ℕ = λ cost. cost * 0 + 1 in
      let counted : cost_in order (map one costs) E ≡ cost_in order costs E * 0 + count_by E order = cost_weighed 0 order costs E long in
      let bound : cost_in order (map one costs) E ≤ 1 * SLOTS =
      cost_bound SLOTS 1 order (map one costs) E slots all (λ k there. slots.below k (all k there)) (map_most one 1 costs (λ i. omega arith)) in
      omega arith

  pub before_by_cost : (p : Problem) → p.order.now ≡ order → p.weights.now ≡ map weight_for costs → (D E : Set ℕ) → ListsAll order D → ListsAll order E → ComesByWeight p D E → ComesBeforeByCost order costs D E
  before_by_cost p ordered made D E all others comes =
      let mine : weight_in p D ≡ cost_in order costs D * COST_UNIT + count_by D order = weighed D in
      let other : weight_in p E ≡ cost_in order costs E * COST_UNIT + count_by E order = weighed E in
      let few : count_by D order ≤ SLOTS = few_slots D all in
      let fewer : count_by E order ≤ SLOTS = few_slots E others in
      elim comes [
        | inl lighter ↦ elim (cases_order (cost_in order costs D) (cost_in order costs E)) [
          | inl same ↦ inr (same, smaller_first (count_by D order) (count_by E order) (by_first order D E) (omega arith))
          | inr (inl less) ↦ inl less
          | inr (inr more) ↦ absurd (omega arith)
        ]
        | inr (as_heavy, first) ↦
            let same : cost_in order costs D ≡ cost_in order costs E = omega arith in
            let first_here : by_first order D E ≡ Less = subst (λ (names : List ℕ). by_first names D E ≡ Less) ordered first in
            inr (same, same_size_first (count_by D order) (count_by E order) (by_first order D E) (omega arith) first_here)
      ]
    where
      weighed : (F : Set ℕ) → weight_in p F ≡ cost_in order costs F * COST_UNIT + count_by F order
      weighed F = ap (λ names. cost_in names p.weights.now F) ordered ∙ (ap (λ weights. cost_in order weights F) made ∙ cost_weighed COST_UNIT order costs F long)
