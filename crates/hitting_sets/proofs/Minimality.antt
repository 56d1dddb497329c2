-- A hitting set is minimal exactly where each of its elements hits some set alone.
use Rattle.std.proofs.Common.{◌≡◌, ℕ, zero, suc, ◌<◌, ◌⊎◌, inl, inr, not, ◌==◌, IsTrue, List, [], ◌∷◌, refl, sym, ap, subst, ◌∙◌, arith}
use Rattle.std.proofs.lemmas.Bool.{and_parts, and_from, and_right, both_ways, cases_eq, cases_Bool, eq-eqb, ne_eqb}
use Rattle.environment_sets.specs.declared.environment.Env.{Env}
use Rattle.environment_sets.specs.declared.environment.TheConstants.{SLOTS}
use Rattle.environment_sets.specs.Sets.{Set, ◌⊆◌, ◌∖◌, only, IsBelow, Hits, HitsEach, IsMinimalHittingSet}
use Rattle.environment_sets.specs.Members.{members, sets, HasMember}
use Rattle.environment_sets.specs.Lists.{IsIn}
use Rattle.environment_sets.proofs.Membership.{IsIn-map}
use Rattle.environment_sets.proofs.Slots.{slots_are_below}
use Rattle.hitting_sets.specs.Own.{HasOwn}
use Rattle.hitting_sets.specs.Laws.{MinimalByOwn}
use Rattle.hitting_sets.proofs.Counting.{hits_or_not}

pub out_of_rest : (D : Set ℕ) (k : ℕ) → IsTrue ((D ∖ only k) k) → ⊥
out_of_rest D k is = both_ways ((D ∖ only k) k) (and_right (D k) (not (k == k)) (ap not (eq-eqb k k refl))) is

pub in_rest : (D : Set ℕ) (k j : ℕ) → (j ≡ k → ⊥) → IsTrue (D j) → IsTrue ((D ∖ only k) j)
in_rest D k j other is = and_from (D j) (not (j == k)) is (ap not (ne_eqb j k other))

pub rest_within : (D : Set ℕ) (k : ℕ) → (D ∖ only k) ⊆ D
rest_within D k j is = (and_parts (D j) (not (j == k)) is).0

pub rest_other : (D : Set ℕ) (k j : ℕ) → IsTrue ((D ∖ only k) j) → j ≡ k → ⊥
rest_other D k j is same = out_of_rest D k (subst (λ (i : ℕ). IsTrue ((D ∖ only k) i)) same is)

-- a hitting set each of whose elements has a set of its own is minimal
pub own_minimal : (Family : Set ℕ → Type 0) (D : Set ℕ) → HitsEach Family D → ((k : ℕ) → IsTrue (D k) → HasOwn Family D k) → IsMinimalHittingSet Family D
own_minimal Family D hits own =
    record {
      holds = hits;
      least = λ F within hit k is.
          let mine : HasOwn Family D k = own k is in
          let shared : Hits F mine.0 = hit mine.0 mine.1 in
          subst (λ (j : ℕ). IsTrue (F j)) (mine.2.alone shared.0 (within shared.0 shared.1) shared.2) shared.1;
    }

-- each set of the list is below n
abbrev pub AreBelow : ℕ → List (Set ℕ) → Type 0
AreBelow n Es = (C : Set ℕ) → IsIn Es C → IsBelow n C

module _ (n : ℕ) where
  -- an element has a set of its own, or the others hit all
  pub own_or_spare : (Es : List (Set ℕ)) → AreBelow n Es → (D : Set ℕ) → HitsEach (IsIn Es) D → (k : ℕ) → IsTrue (D k) → HasOwn (IsIn Es) D k ⊎ HitsEach (IsIn Es) (D ∖ only k)
  own_or_spare [] low D hits k is = inr (λ C bad. absurd bad)
  own_or_spare (C ∷ Es) low D hits k is =
      elim (hits_or_not n (D ∖ only k) C (low C (inl refl))) [
        | inl hit ↦ elim (own_or_spare Es (λ F h. low F (inr h)) D (λ F h. hits F (inr h)) k is) [
          | inl own ↦ inl (own.0, inr own.1, own.2)
          | inr spare ↦ inr (λ F h. elim h [ inl e ↦ subst (Hits (D ∖ only k)) e hit | inr later ↦ spare F later ])
        ]
        | inr misses ↦
            let same : (j : ℕ) → IsTrue (D j) → IsTrue (C j) → j ≡ k = λ j element hit. elim (cases_eq j k) [ inl e ↦ e | inr other ↦ absurd (misses (j, in_rest D k j other element, hit)) ] in
            let shared : Hits D C = hits C (inl refl) in
            inl (C, inl refl, record { element = is; hit = subst (λ (j : ℕ). IsTrue (C j)) (same shared.0 shared.1 shared.2) shared.2; alone = same })
      ]

  pub minimal_own : (Es : List (Set ℕ)) → AreBelow n Es → (D : Set ℕ) → IsMinimalHittingSet (IsIn Es) D → (k : ℕ) → IsTrue (D k) → HasOwn (IsIn Es) D k
  minimal_own Es low D minimal k is =
      elim (own_or_spare Es low D minimal.holds k is) [
        | inl own ↦ own
        | inr spare ↦ absurd (out_of_rest D k (minimal.least (D ∖ only k) (rest_within D k) spare k is))
      ]

  -- each element has a set of its own, or some one is to spare
  pub all_or_spare : (Es : List (Set ℕ)) → AreBelow n Es → (D : Set ℕ) → HitsEach (IsIn Es) D → (m : ℕ) → ((k : ℕ) → k < m → IsTrue (D k) → HasOwn (IsIn Es) D k) ⊎ ((k : ℕ) × IsTrue (D k) × HitsEach (IsIn Es) (D ∖ only k))
  all_or_spare Es low D hits zero = inl (λ k bad is. absurd (omega arith))
  all_or_spare Es low D hits (suc m) =
      elim (all_or_spare Es low D hits m) [
        | inr spare ↦ inr spare
        | inl all ↦ elim (cases_Bool (D m)) [
          | inl is ↦ elim (own_or_spare Es low D hits m is) [
            | inl own ↦ inl (λ k lower there. elim (cases_eq k m) [ inl e ↦ subst (HasOwn (IsIn Es) D) (sym e) own | inr other ↦ all k (omega arith) there ])
            | inr spare ↦ inr (m, is, spare)
          ]
          | inr out ↦ inl (λ k lower there. elim (cases_eq k m) [ inl e ↦ absurd (both_ways (D m) out (ap D (sym e) ∙ there)) | inr other ↦ all k (omega arith) there ])
        ]
      ]

-- the slots of environments are below the bound
pub sets_are_below : (es : List Env) → AreBelow SLOTS (sets es)
sets_are_below es C h =
    let r : (e : Env) × IsIn es e × (members e ≡ C) = IsIn-map members es C h in
    subst (IsBelow SLOTS) r.2 (slots_are_below r.0)

pub minimal_by_own : MinimalByOwn
minimal_by_own conflicts D hits = (
  minimal_own SLOTS (sets conflicts) (sets_are_below conflicts) D,
  own_minimal (HasMember conflicts) D hits,
)
