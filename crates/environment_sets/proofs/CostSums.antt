-- Sums of costs, step by step.
use Rattle.std.proofs.Common.{◌≡◌, ℕ, ◌+◌, ◌<◌, ◌≤◌, cond, List, [], ◌∷◌, length, get_or, map, drop, sum, refl, sym, ap, ap₂, subst, arith, Bool, true, false, inl, inr}
use Rattle.std.proofs.lemmas.List.{drop_more, drop_all}
use Rattle.std.proofs.lemmas.List.Sums.{sum_by-cons}
use Rattle.environment_sets.specs.Sets.{Set}
use Rattle.environment_sets.specs.Lists.{IsIn}
use Rattle.environment_sets.specs.Costs.{cost_in}

pub sum-cons : (x : ℕ) (xs : List ℕ) → sum (x ∷ xs) ≡ x + sum xs
sum-cons x xs = sum_by-cons (λ (n : ℕ). n) x xs

module _ {N : Type 0} where
  -- the cost of what comes from a place on
  pub cost_step : (d : N) (order : List N) (costs : List ℕ) (i : ℕ) (E : Set N) → i < length order → length costs ≡ length order → cost_in (drop i order) (drop i costs) E ≡ cond (E (get_or order i d)) (get_or costs i 0) 0 + cost_in (drop (i + 1) order) (drop (i + 1) costs) E
  cost_step d order costs i E low long = ap₂ (λ ks cs. cost_in ks cs E) (drop_more order i d low) (drop_more costs i 0 (omega arith))

  pub cost_past : (order : List N) (costs : List ℕ) (i : ℕ) (E : Set N) → length order ≤ i → cost_in (drop i order) (drop i costs) E ≡ 0
  cost_past order costs i E high = ap (λ ks. cost_in ks (drop i costs) E) (drop_all i order high)

  -- sets with the same listed elements cost as much
  pub cost_in-agree : (order : List N) (costs : List ℕ) (E F : Set N) → ((k : N) → IsIn order k → E k ≡ F k) → cost_in order costs E ≡ cost_in order costs F
  cost_in-agree [] costs E F same = refl
  cost_in-agree (k ∷ order) [] E F same = refl
  cost_in-agree (k ∷ order) (cost ∷ costs) E F same = ap₂ (λ b n. cond b cost 0 + n) (same k (inl refl)) (cost_in-agree order costs E F (λ l h. same l (inr h)))

  -- no set costs more than all
  pub cost_in-le : (order : List N) (costs : List ℕ) (E : Set N) → cost_in order costs E ≤ sum costs
  cost_in-le [] costs E = omega arith
  cost_in-le (k ∷ order) [] E = omega arith
  cost_in-le (k ∷ order) (cost ∷ costs) E = subst (λ (n : ℕ). cond (E k) cost 0 + cost_in order costs E ≤ n) (sym (sum-cons cost costs)) (both (E k) (cost_in-le order costs E))
    where
      both : (b : Bool) → cost_in order costs E ≤ sum costs → cond b cost 0 + cost_in order costs E ≤ cost + sum costs
      both true le = omega arith
      both false le = omega arith

-- the cost of names that are mapped
pub cost_in-map : {N M : Type 0} (f : N → M) (order : List N) (costs : List ℕ) (E : Set M) → cost_in (map f order) costs E ≡ cost_in order costs (λ k. E (f k))
cost_in-map f [] costs E = refl
cost_in-map f (k ∷ order) [] E = refl
cost_in-map f (k ∷ order) (cost ∷ costs) E = ap (λ n. cond (E (f k)) cost 0 + n) (cost_in-map f order costs E)
