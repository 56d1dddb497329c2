-- What a branch has to expect.
use Rattle.std.proofs.Common.{◌≡◌, ℕ, inl, inr, IsTrue, List, length, arith, ap, sym, subst, ◌∙◌}
use Rattle.std.proofs.lemmas.Bool.{or_left, or_cases}
use Rattle.std.proofs.lemmas.List.{drop_all}
use Rattle.environment_sets.specs.Sets.{Set, Hits, HitsEach}
use Rattle.environment_sets.specs.Members.{members, HasMember}
use Rattle.environment_sets.specs.Lists.{IsIn}
use Rattle.hitting_sets.specs.Own.{HasOwn}
use Rattle.hitting_sets.specs.Hitting.{IsMinimalFor}
use Rattle.hitting_sets.proofs.Minimality.{minimal_by_own}
use Rattle.hitting_sets.proofs.Widening.{same_sets}
use Rattle.first_diagnoses.specs.declared.branch.Branch.{Branch}
use Rattle.first_diagnoses.specs.declared.problem.Problem.{Problem}
use Rattle.first_diagnoses.specs.Weights.{weight_in}
use Rattle.first_diagnoses.specs.Branches.{IsBranch, IsSought}

module _ (p : Problem) (b : Branch) where
  -- each chosen slot hits some conflict alone where there is a sought set
  pub sought_own : (D : Set ℕ) → IsSought p b D → (k : ℕ) → IsTrue (members b.chosen k) → HasOwn (HasMember p.conflicts.now) (members b.chosen) k
  sought_own D sought k there =
      let own : HasOwn (HasMember p.conflicts.now) D k = (minimal_by_own p.conflicts.now D sought.minimal.holds).0 sought.minimal k (sought.chosen k there) in
      (own.0, own.1, record { element = there; hit = own.2.hit; alone = λ j element hit. own.2.alone j (sought.chosen j element) hit })

  -- where nothing is open, the chosen slots hit all that a sought set hits
  pub closed_hits : IsBranch p b → b.place ≡ length p.order.now → (D : Set ℕ) → IsSought p b D → HitsEach (HasMember p.conflicts.now) (members b.chosen)
  closed_hits branch end D sought C member =
      let hit : Hits D C = sought.minimal.holds C member in
      elim (or_cases (members b.chosen hit.0) (members b.open hit.0) (sought.rest hit.0 hit.1)) [
        | inl chosen ↦ (hit.0, chosen, hit.2)
        | inr opened ↦ absurd (subst (λ (ks : List ℕ). IsIn ks hit.0) (drop_all b.place p.order.now (omega arith)) ((branch.rest hit.0).0 opened))
      ]

  -- where what is chosen is minimal, there is no other sought set
  pub chosen_only : IsMinimalFor p.conflicts.now (members b.chosen) → (D : Set ℕ) → IsSought p b D → members b.chosen ≡ D
  chosen_only minimal D sought = same_sets (members b.chosen) D sought.chosen (sought.minimal.least (members b.chosen) sought.chosen minimal.holds)

  pub chosen_weight : (weight : ℕ) → weight ≡ weight_in p (members b.chosen) → IsMinimalFor p.conflicts.now (members b.chosen) → (D : Set ℕ) → IsSought p b D → weight_in p D ≡ weight
  chosen_weight weight is minimal D sought = ap (weight_in p) (sym (chosen_only minimal D sought)) ∙ sym is

  pub chosen_sought : IsMinimalFor p.conflicts.now (members b.chosen) → IsSought p b (members b.chosen)
  chosen_sought minimal = record { minimal = minimal; chosen = λ k there. there; rest = λ k there. or_left (members b.chosen k) (members b.open k) there }
