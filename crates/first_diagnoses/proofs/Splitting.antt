-- A branch, and its two parts: the sets with the slot at its place, and the sets without it.
use Rattle.std.proofs.Common.{◌≡◌, ℕ, zero, suc, ◌<◌, ◌≤◌, ◌⊎◌, inl, inr, Bool, true, false, not, ◌&&◌, cond, IsTrue, ◌↔◌, Ordering, Less, Greater, List, [], ◌∷◌, length, get_or, take, refl, sym, ◌∙◌, arith}
use Rattle.std.proofs.lemmas.Bool.{or_cases, cases_Bool, true≢false, false≢true, false_from_ne_true}
use Rattle.environment_sets.specs.declared.environment.Env.{Env}
use Rattle.environment_sets.specs.Sets.{Set}
use Rattle.environment_sets.specs.Members.{members}
use Rattle.environment_sets.specs.Lists.{IsIn}
use Rattle.environment_sets.specs.Orders.{by_first}
use Rattle.environment_sets.proofs.Membership.{same_bool}
use Rattle.first_diagnoses.specs.declared.branch.Branch.{Branch}
use Rattle.first_diagnoses.specs.declared.problem.Problem.{Problem}
use Rattle.first_diagnoses.specs.Weights.{weight_in, IsProblem}
use Rattle.first_diagnoses.specs.Branches.{IsBranch, IsSought}
use Rattle.first_diagnoses.specs.Rounds.{ComesFirst, IsOfRound, AddsFirst}
use Rattle.first_diagnoses.specs.declared.waiting.Waiting.{Waiting}
use Rattle.first_diagnoses.specs.Waits.{AddsHeavier}
use Rattle.first_diagnoses.proofs.Branching.{parted_at}
use Rattle.first_diagnoses.proofs.Firsts.{adds_zero, adds_append}
use Rattle.first_diagnoses.proofs.Waits.{adds_heavier_append}

-- of two sets that agree up to a place, the one with the name there comes first
by_first_at : (order : List ℕ) (i : ℕ) (D E : Set ℕ) → i < length order → ((k : ℕ) → IsIn (take i order) k → D k ≡ E k) → D (get_or order i 0) ≡ true → E (get_or order i 0) ≡ false → by_first order D E ≡ Less
by_first_at [] i D E low agree is out = absurd (omega arith)
by_first_at (k ∷ order) zero D E low agree is out = here (D k) (E k) (by_first order D E) is out
  where
    here : (a b : Bool) (r : Ordering) → a ≡ true → b ≡ false → cond (a && not b) Less (cond (b && not a) Greater r) ≡ Less
    here true true r e f = absurd (true≢false f)
    here true false r e f = refl
    here false b r e f = absurd (false≢true e)
by_first_at (k ∷ order) (suc i) D E low agree is out =
    same (D k) (E k) (by_first order D E) (agree k (inl refl)) (by_first_at order i D E (omega arith) (λ j h. agree j (inr h)) is out)
  where
    same : (a b : Bool) (r : Ordering) → a ≡ b → r ≡ Less → cond (a && not b) Less (cond (b && not a) Greater r) ≡ Less
    same true true r e f = f
    same true false r e f = absurd (true≢false e)
    same false true r e f = absurd (false≢true e)
    same false false r e f = f

module _ (p : Problem) (is : IsProblem p) (b : Branch) (branch : IsBranch p b) (low : b.place < length p.order.now) where
  abbrev slot : ℕ
  slot = get_or p.order.now b.place 0

  -- before the place a sought set has what is chosen
  as_chosen : (D : Set ℕ) → IsSought p b D → (k : ℕ) → IsIn (take b.place p.order.now) k → D k ≡ members b.chosen k
  as_chosen D sought k before =
      same_bool (D k) (members b.chosen k)
      (λ there. elim (or_cases (members b.chosen k) (members b.open k) (sought.rest k there)) [
        | inl chosen ↦ chosen
        | inr opened ↦ absurd (parted_at p.order.now b.place k is.slots.distinct before ((branch.rest k).0 opened))
      ])
      (sought.chosen k)

  -- the sets of one weight with the slot come before those without it
  with_first : (D E : Set ℕ) → IsSought p b D × IsTrue (D slot) → IsSought p b E × (IsTrue (E slot) → ⊥) → ComesFirst p D E
  with_first D E left right =
      by_first_at p.order.now b.place D E low (λ k before. as_chosen D left.0 k before ∙ sym (as_chosen E right.0 k before)) left.1 (false_from_ne_true (E slot) right.1)

  with_or_without : (D : Set ℕ) → IsSought p b D → (IsSought p b D × IsTrue (D slot)) ⊎ (IsSought p b D × (IsTrue (D slot) → ⊥))
  with_or_without D sought =
      elim (cases_Bool (D slot)) [
        | inl there ↦ inl (sought, there)
        | inr out ↦ inr (sought, λ there. true≢false (sym there ∙ out))
      ]

  -- the sets of the branch with the slot are those of another branch
  module _ (with : Branch) (has : (D : Set ℕ) → IsSought p with D ↔ (IsSought p b D × IsTrue (D slot))) where
    -- the sets of a round with the slot alone, where there are as many as wanted
    pub adds_full : (weight limit : ℕ) (old mid : List Env) → length old < limit → limit ≤ length mid → AddsFirst p (IsOfRound p with weight) limit old mid → AddsFirst p (IsOfRound p b weight) limit old mid
    adds_full weight limit old mid room full left =
        let Rest : Set ℕ → Type 0 = λ E. (IsSought p b E × (IsTrue (E slot) → ⊥)) × (weight_in p E ≡ weight) in
        adds_append p (IsOfRound p with weight) limit Rest (IsOfRound p b weight) old mid mid (omega arith) left (adds_zero p Rest limit mid full)
        (λ D E h k. with_first D E ((has D).0 h.0) k.0)
        (λ D h. (((has D).0 h.0).0, h.1))
        (λ D h. (h.0.0, h.1))
        (λ D h. elim (with_or_without D h.0) [ inl k ↦ inl ((has D).1 k, h.1) | inr k ↦ inr (k, h.1) ])

    -- and the sets without it are those of a third one
    module _ (without : Branch) (lacks : (D : Set ℕ) → IsSought p without D ↔ (IsSought p b D × (IsTrue (D slot) → ⊥))) where
      either : (D : Set ℕ) → IsSought p b D → IsSought p with D ⊎ IsSought p without D
      either D sought = elim (with_or_without D sought) [ inl k ↦ inl ((has D).1 k) | inr k ↦ inr ((lacks D).1 k) ]

      -- the sets of a round with the slot, and then those without it
      pub adds_parts : (weight limit : ℕ) (old mid new : List Env) → length old < limit → AddsFirst p (IsOfRound p with weight) limit old mid → AddsFirst p (IsOfRound p without weight) limit mid new → AddsFirst p (IsOfRound p b weight) limit old new
      adds_parts weight limit old mid new room left right =
          adds_append p (IsOfRound p with weight) limit (IsOfRound p without weight) (IsOfRound p b weight) old mid new (omega arith) left right
          (λ D E h k. with_first D E ((has D).0 h.0) ((lacks E).0 k.0))
          (λ D h. (((has D).0 h.0).0, h.1))
          (λ D h. (((lacks D).0 h.0).0, h.1))
          (λ D h. elim (either D h.0) [ inl k ↦ inl (k, h.1) | inr k ↦ inr (k, h.1) ])

      -- and so the branches in which the heavier ones wait
      pub heavier_parts : (weight : ℕ) (old mid new : List Waiting) → AddsHeavier p (IsSought p with) weight old mid → AddsHeavier p (IsSought p without) weight mid new → AddsHeavier p (IsSought p b) weight old new
      heavier_parts weight old mid new left right =
          adds_heavier_append p (IsSought p with) (IsSought p without) (IsSought p b) weight old mid new left right
          (λ D E h k. with_first D E ((has D).0 h) ((lacks E).0 k))
          (λ D h. ((has D).0 h).0)
          (λ D h. ((lacks D).0 h).0)
          either
