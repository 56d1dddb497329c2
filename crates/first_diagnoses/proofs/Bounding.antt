-- Bounds of the weight of what is looked for.
use Rattle.std.proofs.Common.{◌≡◌, ℕ, suc, ◌+◌, ◌-◌, ◌<◌, ◌≤◌, ◌⊎◌, inl, inr, ◌||◌, IsTrue, List, [], ◌∷◌, length, get_or, drop, sym, ap, subst, ◌∙◌, arith, length-drop}
use Rattle.std.proofs.lemmas.Bool.{and_from, and_parts, or_left, or_right, or_cases}
use Rattle.std.proofs.lemmas.List.{get_or-drop}
use Rattle.environment_sets.specs.declared.environment.Env.{Env}
use Rattle.environment_sets.specs.Sets.{Set, ◌∪◌, ◌∩◌, Hits}
use Rattle.environment_sets.specs.Members.{members, HasMember}
use Rattle.environment_sets.specs.Lists.{IsIn}
use Rattle.first_diagnoses.specs.declared.bound.Bound.{Bound}
use Rattle.first_diagnoses.specs.declared.branch.Branch.{Branch}
use Rattle.first_diagnoses.specs.declared.problem.Problem.{Problem}
use Rattle.first_diagnoses.specs.Weights.{weight_in, IsProblem}
use Rattle.first_diagnoses.specs.Branches.{IsBranch, IsSought, IsBound}
use Rattle.first_diagnoses.proofs.Sums.{cost_join, cost_within, cost_one}

at_place : (xs : List ℕ) (k : ℕ) → IsIn xs k → (i : ℕ) × (i < length xs) × (get_or xs i 0 ≡ k)
at_place [] k h = absurd h
at_place (x ∷ xs) k (inl e) = (0, omega arith, e)
at_place (x ∷ xs) k (inr h) = let r : (i : ℕ) × (i < length xs) × (get_or xs i 0 ≡ k) = at_place xs k h in (suc r.0, omega (arith, r.1), r.2)

-- where an element stands from a place on
from_place : (n : ℕ) (xs : List ℕ) (k : ℕ) → IsIn (drop n xs) k → (i : ℕ) × (n ≤ i) × (i < length xs) × (get_or xs i 0 ≡ k)
from_place n xs k h =
    let r : (i : ℕ) × (i < length (drop n xs)) × (get_or (drop n xs) i 0 ≡ k) = at_place (drop n xs) k h in
    let long : length (drop n xs) ≡ length xs - n = length-drop n xs in
    (n + r.0, omega arith, omega (arith, r.1), sym (get_or-drop n xs r.0 0) ∙ r.2)

module _ (p : Problem) (b : Branch) where
  -- a sought set hits a conflict by a chosen slot or an open one
  pub chosen_or_open : (D C : Set ℕ) → IsSought p b D → HasMember p.conflicts.now C → Hits (members b.chosen) C ⊎ ((k : ℕ) × IsTrue (D k) × IsTrue (members b.open k) × IsTrue (C k))
  chosen_or_open D C sought member =
      let hit : Hits D C = sought.minimal.holds C member in
      elim (or_cases (members b.chosen hit.0) (members b.open hit.0) (sought.rest hit.0 hit.1)) [
        | inl chosen ↦ inl (hit.0, chosen, hit.2)
        | inr opened ↦ inr (hit.0, hit.1, opened, hit.2)
      ]

  pub none_sought : (C : Set ℕ) → HasMember p.conflicts.now C → (Hits (members b.chosen) C → ⊥) → (Hits (members b.open) C → ⊥) → (D : Set ℕ) → IsSought p b D → ⊥
  none_sought C member missed closed D sought =
      elim (chosen_or_open D C sought member) [
        | inl hit ↦ missed hit
        | inr (k, there, opened, inside) ↦ closed (k, opened, inside)
      ]

  -- the chosen slots alone
  pub bound_chosen : (bound : Bound) → bound.least ≡ weight_in p (members b.chosen) → members bound.taken ≡ members b.chosen → IsBound p b bound
  bound_chosen bound least taken D sought =
      let within : weight_in p (members b.chosen) ≤ weight_in p (D ∩ members b.chosen) =
      cost_within p.order.now p.weights.now (members b.chosen) (D ∩ members b.chosen) (λ k there. and_from (D k) (members b.chosen k) (sought.chosen k there) there) in
      subst (λ (E : Set ℕ). bound.least ≤ weight_in p (D ∩ E)) (sym taken) (omega arith)

  pub bound_all : (bound : Bound) → IsBound p b bound → (D : Set ℕ) → IsSought p b D → bound.least ≤ weight_in p D
  bound_all bound bounded D sought =
      let part : bound.least ≤ weight_in p (D ∩ members bound.taken) = bounded D sought in
      let within : weight_in p (D ∩ members bound.taken) ≤ weight_in p D =
      cost_within p.order.now p.weights.now (D ∩ members bound.taken) D (λ k there. (and_parts (D k) (members bound.taken k) there).0) in
      omega arith

  -- the lightest open slot of a conflict more
  module _ (is : IsProblem p) (branch : IsBranch p b) (bound next : Bound) (conflict open_slots : Env) (lightest : ℕ) where
    pub bound_more : IsBound p b bound → HasMember p.conflicts.now (members conflict) → (Hits (members b.chosen) (members conflict) → ⊥) → members open_slots ≡ members b.open ∩ members conflict → (Hits (members bound.taken) (members open_slots) → ⊥) → ((i : ℕ) → b.place ≤ i → i < length p.order.now → IsTrue (members open_slots (get_or p.order.now i 0)) → lightest ≤ get_or p.weights.now i 0) → next.least ≤ bound.least + lightest → members next.taken ≡ members bound.taken ∪ members open_slots → IsBound p b next
    bound_more bounded member missed both apart light least taken D sought =
        let before : bound.least ≤ weight_in p (D ∩ members bound.taken) = bounded D sought in
        let here : lightest ≤ weight_in p (D ∩ members open_slots) =
        elim (chosen_or_open D (members conflict) sought member) [
          | inl hit ↦ absurd (missed hit)
          | inr (k, there, opened, inside) ↦
              let r : (i : ℕ) × (b.place ≤ i) × (i < length p.order.now) × (get_or p.order.now i 0 ≡ k) = from_place b.place p.order.now k ((branch.rest k).0 opened) in
              let shared : IsTrue (members open_slots k) = ap (λ E. E k) both ∙ and_from (members b.open k) (members conflict k) opened inside in
              let first : lightest ≤ get_or p.weights.now r.0 0 = light r.0 r.1 r.2 (subst (λ (j : ℕ). IsTrue (members open_slots j)) (sym r.3) shared) in
              let second : get_or p.weights.now r.0 0 ≤ weight_in p (D ∩ members open_slots) =
              cost_one p.order.now p.weights.now r.0 (D ∩ members open_slots) r.2 is.weighed (subst (λ (j : ℕ). IsTrue ((D ∩ members open_slots) j)) (sym r.3) (and_from (D k) (members open_slots k) there shared)) in
              omega arith
        ] in
        let joined : weight_in p (D ∩ members bound.taken) + weight_in p (D ∩ members open_slots) ≤ weight_in p (D ∩ (members bound.taken ∪ members open_slots)) =
        cost_join p.order.now p.weights.now (D ∩ members bound.taken) (D ∩ members open_slots) (D ∩ (members bound.taken ∪ members open_slots))
        (λ k there. let parts = and_parts (D k) (members bound.taken k) there in and_from (D k) (members bound.taken k || members open_slots k) parts.0 (or_left (members bound.taken k) (members open_slots k) parts.1))
        (λ k there. let parts = and_parts (D k) (members open_slots k) there in and_from (D k) (members bound.taken k || members open_slots k) parts.0 (or_right (members bound.taken k) (members open_slots k) parts.1))
        (λ k left right. apart (k, (and_parts (D k) (members bound.taken k) left).1, (and_parts (D k) (members open_slots k) right).1)) in
        subst (λ (E : Set ℕ). next.least ≤ weight_in p (D ∩ E)) (sym taken) (omega arith)
