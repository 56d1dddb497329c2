-- Sums of costs, step by step.
use Rattle.std.proofs.Common.{◌≡◌, ℕ, zero, suc, ◌+◌, ◌*◌, ◌<◌, ◌≤◌, inl, inr, Bool, true, false, ◌==◌, cond, IsTrue, ◌↔◌, List, [], ◌∷◌, ◌++◌, length, get_or, take, drop, sym, ap, ap₂, subst, ◌∙◌, arith}
use Rattle.std.specs.List.{count_by}
use Rattle.std.proofs.lemmas.Bool.{or_left, or_right, or_cases, eqb-true, eq-eqb}
use Rattle.std.proofs.lemmas.List.{take_more, drop_more, drop_all}
use Rattle.std.proofs.lemmas.List.Sums.{sum_by-cons}
use Rattle.environment_sets.specs.Sets.{Set, ◌∪◌, only, IsBelow, size_below}
use Rattle.environment_sets.specs.Lists.{IsIn}
use Rattle.environment_sets.specs.Orders.{ListsAll, IsOrder}
use Rattle.environment_sets.proofs.Listings.{IsIn-push, IsIn-front, IsIn-last}
use Rattle.environment_sets.proofs.Sizes.{sizes_are_counts}
use Rattle.environment_sets.specs.Costs.{cost_in}

-- each name costs at most so much
cost_most : (most : ℕ) (order costs : List ℕ) (E : Set ℕ) → ((i : ℕ) → get_or costs i 0 ≤ most) → cost_in order costs E ≤ most * count_by E order
cost_most most [] costs E small = omega arith
cost_most most (k ∷ order) [] E small = omega arith
cost_most most (k ∷ order) (cost ∷ costs) E small =
    let count : count_by E (k ∷ order) ≡ cond (E k) 1 0 + count_by E order = sum_by-cons (λ (y : ℕ). cond (E y) 1 0) k order in
    let rest : cost_in order costs E ≤ most * count_by E order = cost_most most order costs E (λ i. small (suc i)) in
    let here : cond (E k) cost 0 ≤ most * cond (E k) 1 0 = at_most (E k) (small 0) in
    subst (λ (n : ℕ). cond (E k) cost 0 + cost_in order costs E ≤ most * n) (sym count) (added most _ _ _ _ here rest)
  where
    at_most : (b : Bool) → cost ≤ most → cond b cost 0 ≤ most * cond b 1 0
    at_most true low = omega arith
    at_most false low = omega arith

    added : (m a b x y : ℕ) → a ≤ m * x → b ≤ m * y → a + b ≤ m * (x + y)
    added m a b x y h k = omega arith

size_most : (n : ℕ) (E : Set ℕ) → size_below n E ≤ n
unfolding size_below
size_most zero E = omega arith
size_most (suc n) E =
    elim (E n) as (λ b. size_below n E + cond b 1 0 ≤ suc n) [ true ↦ omega (arith, size_most n E) | false ↦ omega (arith, size_most n E) ]

-- a set of listed slots costs at most so much
pub cost_bound : (n most : ℕ) (order costs : List ℕ) (E : Set ℕ) → IsOrder n order → ListsAll order E → IsBelow n E → ((i : ℕ) → get_or costs i 0 ≤ most) → cost_in order costs E ≤ most * n
cost_bound n most order costs E is all low small =
    let count : count_by E order ≡ size_below n E = sizes_are_counts n E order low is.distinct all in
    let some : cost_in order costs E ≤ most * count_by E order = cost_most most order costs E small in
    grow most (count_by E order) n (omega (arith, size_most n E)) some
  where
    grow : (m x y : ℕ) → x ≤ y → cost_in order costs E ≤ m * x → cost_in order costs E ≤ m * y
    grow m x y le h = grind arith

-- one slot more
pub slots_more : (order : List ℕ) (i : ℕ) (S new : Set ℕ) → i < length order → ((k : ℕ) → IsTrue (S k) ↔ IsIn (take i order) k) → new ≡ S ∪ only (get_or order i 0) → (k : ℕ) → IsTrue (new k) ↔ IsIn (take (i + 1) order) k
slots_more order i S new low before grown k =
    let longer : take (i + 1) order ≡ take i order ++ get_or order i 0 ∷ [] = take_more order i 0 low in (
      λ is. subst (λ (ks : List ℕ). IsIn ks k) (sym longer) (elim (or_cases (S k) (k == get_or order i 0) (sym (ap (λ E. E k) grown) ∙ is)) [
        | inl h ↦ IsIn-front (take i order) (get_or order i 0) k ((before k).0 h)
        | inr h ↦ IsIn-last (take i order) (get_or order i 0) k (sym (eqb-true k (get_or order i 0) h))
      ]),
      λ h. ap (λ E. E k) grown ∙ elim (IsIn-push (take i order) (get_or order i 0) k (subst (λ (ks : List ℕ). IsIn ks k) longer h)) [
        | inl there ↦ or_left (S k) (k == get_or order i 0) ((before k).1 there)
        | inr same ↦ or_right (S k) (k == get_or order i 0) (eq-eqb k (get_or order i 0) (sym same))
      ],
    )
