-- Branches with one slot more decided.
use Rattle.std.proofs.Common.{◌≡◌, ℕ, ◌+◌, ◌<◌, ◌⊎◌, inl, inr, IsTrue, ◌↔◌, List, [], ◌∷◌, ◌++◌, length, get_or, take, drop, refl, sym, ap, subst, ◌∙◌, arith}
use Rattle.std.proofs.lemmas.Bool.{false≢true, or_left, or_right, or_cases, cases_eq}
use Rattle.std.proofs.lemmas.List.{take_more, drop_more, take-append-drop}
use Rattle.environment_sets.specs.Sets.{Set, no_elements, only, ◌⊆◌, ◌∪◌, ◌∖◌}
use Rattle.environment_sets.specs.Members.{members, HasMember}
use Rattle.environment_sets.specs.Lists.{IsIn, AreDistinct}
use Rattle.environment_sets.specs.Orders.{ListsAll}
use Rattle.environment_sets.proofs.Listings.{IsIn-front, IsIn-last}
use Rattle.environment_sets.proofs.Membership.{IsIn-right}
use Rattle.hitting_sets.specs.Own.{HasOwn}
use Rattle.hitting_sets.specs.Hitting.{IsMinimalFor}
use Rattle.hitting_sets.proofs.Minimality.{minimal_by_own, out_of_rest, in_rest, rest_within, rest_other}
use Rattle.hitting_sets.proofs.Rosters.{not_before}
use Rattle.hitting_sets.proofs.Widening.{widened, still_there, of_widened}
use Rattle.first_diagnoses.specs.declared.branch.Branch.{Branch}
use Rattle.first_diagnoses.specs.declared.problem.Problem.{Problem}
use Rattle.first_diagnoses.specs.Weights.{IsProblem}
use Rattle.first_diagnoses.specs.Branches.{IsBranch, IsSought}

-- no element of the one list stands in the other where they are distinct together
parted : (xs ys : List ℕ) (k : ℕ) → AreDistinct (xs ++ ys) → IsIn xs k → IsIn ys k → ⊥
parted [] ys k apart h there = h
parted (x ∷ xs) ys k apart (inl same) there = apart.0 k (IsIn-right xs ys k there) same
parted (x ∷ xs) ys k apart (inr h) there = parted xs ys k apart.1 h there

-- of distinct elements none stands on both sides of a place
pub parted_at : (xs : List ℕ) (i k : ℕ) → AreDistinct xs → IsIn (take i xs) k → IsIn (drop i xs) k → ⊥
parted_at xs i k apart = parted (take i xs) (drop i xs) k (subst AreDistinct (sym (take-append-drop i xs)) apart)

module _ (p : Problem) (is : IsProblem p) where
  -- a minimal hitting set has slots of the conflicts alone, so the order has them all
  pub minimal_listed : (D : Set ℕ) → IsMinimalFor p.conflicts.now D → ListsAll p.order.now D
  minimal_listed D minimal k there =
      let own : HasOwn (HasMember p.conflicts.now) D k = (minimal_by_own p.conflicts.now D minimal.holds).0 minimal k there in
      is.listed own.0 own.1 k own.2.hit

  -- the branch of all sets of slots of the order
  module _ (b : Branch) (none : members b.chosen ≡ no_elements) (start : b.place ≡ 0) (all : (k : ℕ) → IsTrue (members b.open k) ↔ IsIn p.order.now k) where
    nothing : (k : ℕ) → IsTrue (members b.chosen k) → ⊥
    nothing k there = false≢true (sym (ap (λ E. E k) none) ∙ there)

    pub all_branch : IsBranch p b
    all_branch = record {
      within = omega arith;
      decided = λ k there. absurd (nothing k there);
      rest = subst (λ (i : ℕ). (k : ℕ) → IsTrue (members b.open k) ↔ IsIn (drop i p.order.now) k) (sym start) all;
    }

    pub all_sought : (D : Set ℕ) → IsMinimalFor p.conflicts.now D → IsSought p b D
    all_sought D minimal = record {
      minimal = minimal;
      chosen = λ k there. absurd (nothing k there);
      rest = λ k there. or_right (members b.chosen k) (members b.open k) ((all k).1 (minimal_listed D minimal k there));
    }

  -- the slot at the place of a branch
  module _ (b : Branch) (branch : IsBranch p b) (low : b.place < length p.order.now) where
    abbrev pub next_slot : ℕ
    next_slot = get_or p.order.now b.place 0

    next_open : IsTrue (members b.open next_slot)
    next_open = (branch.rest next_slot).1 (subst (λ (ks : List ℕ). IsIn ks next_slot) (sym (drop_more p.order.now b.place 0 low)) (inl refl))

    next_not_chosen : IsTrue (members b.chosen next_slot) → ⊥
    next_not_chosen there = not_before p.order.now b.place 0 low is.slots.distinct (branch.decided next_slot there)

    decided_next : (k : ℕ) → k ≡ next_slot → IsIn (take (b.place + 1) p.order.now) k
    decided_next k same = subst (λ (ks : List ℕ). IsIn ks k) (sym (take_more p.order.now b.place 0 low)) (IsIn-last (take b.place p.order.now) next_slot k (sym same))

    open_later : (k : ℕ) → IsTrue ((members b.open ∖ only next_slot) k) ↔ IsIn (drop (b.place + 1) p.order.now) k
    open_later k = (
      λ there. elim (subst (λ (ks : List ℕ). IsIn ks k) (drop_more p.order.now b.place 0 low) ((branch.rest k).0 (rest_within (members b.open) next_slot k there))) [
        | inl same ↦ absurd (rest_other (members b.open) next_slot k there (sym same))
        | inr later ↦ later
      ],
      λ later. in_rest (members b.open) next_slot k
          (λ same. parted_at p.order.now (b.place + 1) k is.slots.distinct (decided_next k same) later)
          ((branch.rest k).1 (subst (λ (ks : List ℕ). IsIn ks k) (sym (drop_more p.order.now b.place 0 low)) (inr later))),
    )

    decided_more : (k : ℕ) → IsIn (take b.place p.order.now) k → IsIn (take (b.place + 1) p.order.now) k
    decided_more k h = subst (λ (ks : List ℕ). IsIn ks k) (sym (take_more p.order.now b.place 0 low)) (IsIn-front (take b.place p.order.now) next_slot k h)

    module _ (c : Branch) (place : c.place ≡ b.place + 1) (opened : members c.open ≡ members b.open ∖ only next_slot) where
      rest_later : (k : ℕ) → IsTrue (members c.open k) ↔ IsIn (drop c.place p.order.now) k
      rest_later =
          let P : ℕ → Type 0 = λ i. (k : ℕ) → IsTrue (members c.open k) ↔ IsIn (drop i p.order.now) k in
          let Q : Set ℕ → Type 0 = λ E. (k : ℕ) → IsTrue (E k) ↔ IsIn (drop (b.place + 1) p.order.now) k in
          subst P (sym place) (subst Q (sym opened) open_later)

      open_still : (k : ℕ) → IsTrue (members b.open k) → (k ≡ next_slot → ⊥) → IsTrue (members c.open k)
      open_still k there other = ap (λ E. E k) opened ∙ in_rest (members b.open) next_slot k other there

      open_before : (k : ℕ) → IsTrue (members c.open k) → IsTrue (members b.open k)
      open_before k there = rest_within (members b.open) next_slot k (sym (ap (λ E. E k) opened) ∙ there)

      -- where the slot is chosen
      module _ (more : members c.chosen ≡ members b.chosen ∪ only next_slot) where
        chosen_before : members b.chosen ⊆ members c.chosen
        chosen_before k there = ap (λ E. E k) more ∙ still_there (members b.chosen) next_slot k there

        chosen_next : (k : ℕ) → k ≡ next_slot → IsTrue (members c.chosen k)
        chosen_next k same = subst (λ (j : ℕ). IsTrue (members c.chosen j)) (sym same) (ap (λ E. E next_slot) more ∙ widened (members b.chosen) next_slot)

        of_chosen : (k : ℕ) → IsTrue (members c.chosen k) → IsTrue (members b.chosen k) ⊎ (k ≡ next_slot)
        of_chosen k there = of_widened (members b.chosen) next_slot k (sym (ap (λ E. E k) more) ∙ there)

        pub with_branch : IsBranch p c
        with_branch = record {
          within = omega arith;
          decided = subst (λ (i : ℕ). ListsAll (take i p.order.now) (members c.chosen)) (sym place) (λ k there.
              elim (of_chosen k there) [ inl before ↦ decided_more k (branch.decided k before) | inr same ↦ decided_next k same ]);
          rest = rest_later;
        }

        with_to : (D : Set ℕ) → IsSought p c D → IsSought p b D × IsTrue (D next_slot)
        with_to D sought = (
          record {
            minimal = sought.minimal;
            chosen = λ k there. sought.chosen k (chosen_before k there);
            rest = λ k there. elim (or_cases (members c.chosen k) (members c.open k) (sought.rest k there)) [
              | inl chosen ↦ elim (of_chosen k chosen) [
                | inl before ↦ or_left (members b.chosen k) (members b.open k) before
                | inr same ↦ or_right (members b.chosen k) (members b.open k) (subst (λ (j : ℕ). IsTrue (members b.open j)) (sym same) next_open)
              ]
              | inr later ↦ or_right (members b.chosen k) (members b.open k) (open_before k later)
            ];
          },
          sought.chosen next_slot (chosen_next next_slot refl),
        )

        with_from : (D : Set ℕ) → IsSought p b D × IsTrue (D next_slot) → IsSought p c D
        with_from D h = record {
          minimal = h.0.minimal;
          chosen = λ k there. elim (of_chosen k there) [
            | inl before ↦ h.0.chosen k before
            | inr same ↦ subst (λ (j : ℕ). IsTrue (D j)) (sym same) h.1
          ];
          rest = λ k there. elim (or_cases (members b.chosen k) (members b.open k) (h.0.rest k there)) [
            | inl before ↦ or_left (members c.chosen k) (members c.open k) (chosen_before k before)
            | inr opened ↦ elim (cases_eq k next_slot) [
              | inl same ↦ or_left (members c.chosen k) (members c.open k) (chosen_next k same)
              | inr other ↦ or_right (members c.chosen k) (members c.open k) (open_still k opened other)
            ]
          ];
        }

        pub with_sought : (D : Set ℕ) → IsSought p c D ↔ (IsSought p b D × IsTrue (D next_slot))
        with_sought D = (with_to D, with_from D)

      -- where the slot is left out
      module _ (same_chosen : members c.chosen ≡ members b.chosen) where
        chosen_still : (k : ℕ) → IsTrue (members c.chosen k) → IsTrue (members b.chosen k)
        chosen_still k there = sym (ap (λ E. E k) same_chosen) ∙ there

        pub without_branch : IsBranch p c
        without_branch = record {
          within = omega arith;
          decided = subst (λ (i : ℕ). ListsAll (take i p.order.now) (members c.chosen)) (sym place) (λ k there. decided_more k (branch.decided k (chosen_still k there)));
          rest = rest_later;
        }

        without_to : (D : Set ℕ) → IsSought p c D → IsSought p b D × (IsTrue (D next_slot) → ⊥)
        without_to D sought = (
          record {
            minimal = sought.minimal;
            chosen = λ k there. sought.chosen k (ap (λ E. E k) same_chosen ∙ there);
            rest = λ k there. elim (or_cases (members c.chosen k) (members c.open k) (sought.rest k there)) [
              | inl chosen ↦ or_left (members b.chosen k) (members b.open k) (chosen_still k chosen)
              | inr later ↦ or_right (members b.chosen k) (members b.open k) (open_before k later)
            ];
          },
          λ there. elim (or_cases (members c.chosen next_slot) (members c.open next_slot) (sought.rest next_slot there)) [
            | inl chosen ↦ next_not_chosen (chosen_still next_slot chosen)
            | inr later ↦ out_of_rest (members b.open) next_slot (sym (ap (λ E. E next_slot) opened) ∙ later)
          ],
        )

        without_from : (D : Set ℕ) → IsSought p b D × (IsTrue (D next_slot) → ⊥) → IsSought p c D
        without_from D h = record {
          minimal = h.0.minimal;
          chosen = λ k there. h.0.chosen k (chosen_still k there);
          rest = λ k there. elim (or_cases (members b.chosen k) (members b.open k) (h.0.rest k there)) [
            | inl before ↦ or_left (members c.chosen k) (members c.open k) (ap (λ E. E k) same_chosen ∙ before)
            | inr opened ↦ or_right (members c.chosen k) (members c.open k) (open_still k opened (λ same. h.1 (subst (λ (j : ℕ). IsTrue (D j)) same there)))
          ];
        }

        pub without_sought : (D : Set ℕ) → IsSought p c D ↔ (IsSought p b D × (IsTrue (D next_slot) → ⊥))
        without_sought D = (without_to D, without_from D)
