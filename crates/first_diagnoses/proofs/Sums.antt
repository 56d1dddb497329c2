-- Sums of weights.
use Rattle.std.proofs.Common.{◌≡◌, ℕ, zero, suc, ◌+◌, ◌*◌, ◌<◌, ◌≤◌, Bool, true, false, cond, IsTrue, List, [], ◌∷◌, length, get_or, map, refl, ap, arith}
use Rattle.std.specs.List.{count_by}
use Rattle.std.proofs.lemmas.Bool.{false≢true}
use Rattle.environment_sets.specs.Sets.{Set, no_elements, ◌⊆◌}
use Rattle.environment_sets.proofs.Counting.{count_by-cons}
use Rattle.environment_sets.specs.Costs.{cost_in}

-- two sets that share no element weigh no more than a set that has them both
pub cost_join : (order weights : List ℕ) (A B G : Set ℕ) → A ⊆ G → B ⊆ G → ((k : ℕ) → IsTrue (A k) → IsTrue (B k) → ⊥) → cost_in order weights A + cost_in order weights B ≤ cost_in order weights G
cost_join [] weights A B G left right apart = omega arith
cost_join (k ∷ order) [] A B G left right apart = omega arith
cost_join (k ∷ order) (weight ∷ weights) A B G left right apart =
    let rest : cost_in order weights A + cost_in order weights B ≤ cost_in order weights G = cost_join order weights A B G left right apart in
    let here : cond (A k) weight 0 + cond (B k) weight 0 ≤ cond (G k) weight 0 = at_name (A k) (B k) (G k) (left k) (right k) (apart k) in
    omega arith
  where
    at_name : (a b g : Bool) → (IsTrue a → IsTrue g) → (IsTrue b → IsTrue g) → (IsTrue a → IsTrue b → ⊥) → cond a weight 0 + cond b weight 0 ≤ cond g weight 0
    at_name true true g l r never = absurd (never refl refl)
    at_name true false true l r never = omega arith
    at_name true false false l r never = absurd (false≢true (l refl))
    at_name false true true l r never = omega arith
    at_name false true false l r never = absurd (false≢true (r refl))
    at_name false false g l r never = omega arith

-- a set weighs no more than one that has its elements
pub cost_within : (order weights : List ℕ) (E F : Set ℕ) → E ⊆ F → cost_in order weights E ≤ cost_in order weights F
cost_within order weights E F within =
    let both : cost_in order weights E + cost_in order weights no_elements ≤ cost_in order weights F =
    cost_join order weights E no_elements F within (λ k none. absurd (false≢true none)) (λ k _ none. false≢true none) in
    omega arith

-- a slot weighs no more than a set that has it
pub cost_one : (order weights : List ℕ) (i : ℕ) (E : Set ℕ) → i < length order → length weights ≡ length order → IsTrue (E (get_or order i 0)) → get_or weights i 0 ≤ cost_in order weights E
cost_one [] weights i E low long is = absurd (omega arith)
cost_one (k ∷ order) [] i E low long is = absurd (omega arith)
cost_one (k ∷ order) (weight ∷ weights) zero E low long is = let here : cond (E k) weight 0 ≡ weight = ap (λ b. cond b weight 0) is in omega arith
cost_one (k ∷ order) (weight ∷ weights) (suc i) E low long is = omega (arith, cost_one order weights i E (omega arith) (omega arith) is)

-- where each name weighs so much for a cost of one, and one for itself
pub cost_weighed : (unit : ℕ) (order costs : List ℕ) (E : Set ℕ) → length costs ≡ length order → cost_in order (map (λ cost. cost * unit + 1) costs) E ≡ cost_in order costs E * unit + count_by E order
cost_weighed unit [] costs E long = omega arith
cost_weighed unit (k ∷ order) [] E long = absurd (omega arith)
cost_weighed unit (k ∷ order) (cost ∷ costs) E long =
    let rest : cost_in order (map (λ cost. cost * unit + 1) costs) E ≡ cost_in order costs E * unit + count_by E order = cost_weighed unit order costs E (omega arith) in
    let count : count_by E (k ∷ order) ≡ cond (E k) 1 0 + count_by E order = count_by-cons E k order in
    let here : cond (E k) (cost * unit + 1) 0 ≡ cond (E k) cost 0 * unit + cond (E k) 1 0 = at_name (E k) in
    added (cond (E k) (cost * unit + 1) 0) (cond (E k) cost 0) (cond (E k) 1 0) _ (cost_in order costs E) (count_by E order) (count_by E (k ∷ order)) here rest count
  where
    at_name : (b : Bool) → cond b (cost * unit + 1) 0 ≡ cond b cost 0 * unit + cond b 1 0
    at_name true = refl
    at_name false = omega arith

    added : (w c s v d t n : ℕ) → w ≡ c * unit + s → v ≡ d * unit + t → n ≡ s + t → w + v ≡ (c + d) * unit + n
    added w c s v d t n e f g = grind arith
