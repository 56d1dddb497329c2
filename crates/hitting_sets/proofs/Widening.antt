-- From the minimal hitting sets of some sets to those of one set more.
use Rattle.std.proofs.Common.{◌≡◌, ℕ, ◌<◌, ◌⊎◌, inl, inr, ◌==◌, IsTrue, ◌↔◌, List, refl, sym, subst, ◌∙◌}
use Rattle.std.proofs.lemmas.Bool.{or_left, or_right, or_cases, cases_eq, eq-eqb, eqb-true}
use mathlib.Core.Path.{fun_ext}
use Rattle.environment_sets.specs.Sets.{Set, ◌⊆◌, ◌∪◌, ◌∖◌, only, Hits, HitsEach, IsMinimalHittingSet}
use Rattle.environment_sets.specs.Lists.{IsIn}
use Rattle.environment_sets.proofs.Membership.{same_bool}
use Rattle.hitting_sets.specs.Own.{IsAlone, HasOwn}
use Rattle.hitting_sets.specs.Hitting.{Widens, ComesFrom}
use Rattle.hitting_sets.proofs.Minimality.{AreBelow, in_rest, rest_within, rest_other, own_minimal, minimal_own, all_or_spare}

pub same_sets : (D E : Set ℕ) → D ⊆ E → E ⊆ D → D ≡ E
same_sets D E to from = fun_ext (λ k. same_bool (D k) (E k) (to k) (from k))

pub widened : (S : Set ℕ) (e : ℕ) → IsTrue ((S ∪ only e) e)
widened S e = or_right (S e) (e == e) (eq-eqb e e refl)

pub still_there : (S : Set ℕ) (e : ℕ) → S ⊆ (S ∪ only e)
still_there S e k is = or_left (S k) (k == e) is

pub of_widened : (S : Set ℕ) (e k : ℕ) → IsTrue ((S ∪ only e) k) → IsTrue (S k) ⊎ (k ≡ e)
of_widened S e k is = elim (or_cases (S k) (k == e) is) [ inl h ↦ inl h | inr h ↦ inr (eqb-true k e h) ]

rest_widened : (D : Set ℕ) (e : ℕ) → IsTrue (D e) → D ≡ ((D ∖ only e) ∪ only e)
rest_widened D e is =
    same_sets D ((D ∖ only e) ∪ only e)
    (λ k there. elim (cases_eq k e) [
      | inl same ↦ subst (λ (j : ℕ). IsTrue (((D ∖ only e) ∪ only e) j)) (sym same) (widened (D ∖ only e) e)
      | inr other ↦ still_there (D ∖ only e) e k (in_rest D e k other there)
    ])
    (λ k there. elim (of_widened (D ∖ only e) e k there) [
      | inl rest ↦ rest_within D e k rest
      | inr same ↦ subst (λ (j : ℕ). IsTrue (D j)) (sym same) is
    ])

-- the sets of the longer list are those of the shorter one and C
abbrev pub HasMore : List (Set ℕ) → Set ℕ → List (Set ℕ) → Type 0
HasMore Es C More = (F : Set ℕ) → IsIn More F ↔ (IsIn Es F ⊎ (C ≡ F))

module _ (Es : List (Set ℕ)) (C : Set ℕ) (More : List (Set ℕ)) (more : HasMore Es C More) where
  hits_fewer : (D : Set ℕ) → HitsEach (IsIn More) D → HitsEach (IsIn Es) D
  hits_fewer D hits F h = hits F ((more F).1 (inl h))

  pub hits_more : (D : Set ℕ) → HitsEach (IsIn Es) D → Hits D C → HitsEach (IsIn More) D
  hits_more D hits hit F h = elim ((more F).0 h) [ inl before ↦ hits F before | inr same ↦ subst (Hits D) same hit ]

  -- a minimal set that hits C too stays minimal
  pub stays_minimal : (S : Set ℕ) → IsMinimalHittingSet (IsIn Es) S → Hits S C → IsMinimalHittingSet (IsIn More) S
  stays_minimal S minimal hit =
      record {
        holds = hits_more S minimal.holds hit;
        least = λ F within hits. minimal.least F within (hits_fewer F hits);
      }

  pub wider_hits : (S : Set ℕ) (e : ℕ) → HitsEach (IsIn Es) S → IsTrue (C e) → HitsEach (IsIn More) (S ∪ only e)
  wider_hits S e hits is =
      hits_more (S ∪ only e) (λ F h. let hit : Hits S F = hits F h in (hit.0, still_there S e hit.0 hit.1, hit.2)) (e, widened S e, is)

  -- one set comes from one minimal set alone
  pub one_origin : (S T D : Set ℕ) → IsMinimalHittingSet (IsIn Es) S → IsMinimalHittingSet (IsIn Es) T → ComesFrom C S D → ComesFrom C T D → S ≡ T
  one_origin S T D s t (inl (_, same)) (inl (_, alike)) = sym same ∙ alike
  one_origin S T D s t (inl (hit, same)) (inr (misses, wide)) = absurd (misses (apart S T D s t hit same wide))
    where
      apart : (S T D : Set ℕ) → IsMinimalHittingSet (IsIn Es) S → IsMinimalHittingSet (IsIn Es) T → Hits S C → D ≡ S → Widens C T D → Hits T C
      apart S T D s t hit same wide =
          let within : T ⊆ S = λ k is. subst (λ (F : Set ℕ). IsTrue (F k)) same (subst (λ (F : Set ℕ). IsTrue (F k)) (sym wide.2) (still_there T wide.0 k is)) in
          (hit.0, s.least T within t.holds hit.0 hit.1, hit.2)
  one_origin S T D s t (inr (misses, wide)) (inl (hit, same)) = absurd (misses (apart T S D t s hit same wide))
    where
      apart : (S T D : Set ℕ) → IsMinimalHittingSet (IsIn Es) S → IsMinimalHittingSet (IsIn Es) T → Hits S C → D ≡ S → Widens C T D → Hits T C
      apart S T D s t hit same wide =
          let within : T ⊆ S = λ k is. subst (λ (F : Set ℕ). IsTrue (F k)) same (subst (λ (F : Set ℕ). IsTrue (F k)) (sym wide.2) (still_there T wide.0 k is)) in
          (hit.0, s.least T within t.holds hit.0 hit.1, hit.2)
  one_origin S T D s t (inr (misses, wide)) (inr (lacks, broad)) = same_sets S T (within S T D misses wide broad) (within T S D lacks broad wide)
    where
      within : (S T D : Set ℕ) → (Hits S C → ⊥) → Widens C S D → Widens C T D → S ⊆ T
      within S T D misses wide broad k is =
          elim (of_widened T broad.0 k (subst (λ (F : Set ℕ). IsTrue (F k)) broad.2 (subst (λ (F : Set ℕ). IsTrue (F k)) (sym wide.2) (still_there S wide.0 k is)))) [
            | inl there ↦ there
            | inr same ↦ absurd (misses (k, is, subst (λ (j : ℕ). IsTrue (C j)) (sym same) broad.1))
          ]

  module _ (n : ℕ) (low : AreBelow n Es) (lower : AreBelow n More) where
    -- each minimal set of the longer list comes from one of the shorter list
    pub comes_from_minimal : (D : Set ℕ) → IsMinimalHittingSet (IsIn More) D → (S : Set ℕ) × IsMinimalHittingSet (IsIn Es) S × ComesFrom C S D
    comes_from_minimal D minimal =
        elim (all_or_spare n Es low D hits n) [
          | inl all ↦ (D, own_minimal (IsIn Es) D hits (λ k is. all k (below k is) is), inl (minimal.holds C ((more C).1 (inr refl)), refl))
          | inr (e, is, spare) ↦ (D ∖ only e, rest_minimal e is spare, inr (rest_misses e is spare, (e, (alone e is spare).hit, rest_widened D e is)))
        ]
      where
        hits : HitsEach (IsIn Es) D
        hits = hits_fewer D minimal.holds

        own : (k : ℕ) → IsTrue (D k) → HasOwn (IsIn More) D k
        own = minimal_own n More lower D minimal

        below : (k : ℕ) → IsTrue (D k) → k < n
        below k is = let mine : HasOwn (IsIn More) D k = own k is in lower mine.0 mine.1 k mine.2.hit

        -- an element to spare hits C alone
        alone : (e : ℕ) → IsTrue (D e) → HitsEach (IsIn Es) (D ∖ only e) → IsAlone D C e
        alone e is spare =
            let mine : HasOwn (IsIn More) D e = own e is in
            elim ((more mine.0).0 mine.1) [
              | inl before ↦
                  let hit : Hits (D ∖ only e) mine.0 = spare mine.0 before in
                  absurd (rest_other D e hit.0 hit.1 (mine.2.alone hit.0 (rest_within D e hit.0 hit.1) hit.2))
              | inr same ↦ subst (λ (F : Set ℕ). IsAlone D F e) (sym same) mine.2
            ]

        rest_misses : (e : ℕ) → IsTrue (D e) → HitsEach (IsIn Es) (D ∖ only e) → Hits (D ∖ only e) C → ⊥
        rest_misses e is spare (j, there, hit) = rest_other D e j there ((alone e is spare).alone j (rest_within D e j there) hit)

        rest_minimal : (e : ℕ) → IsTrue (D e) → HitsEach (IsIn Es) (D ∖ only e) → IsMinimalHittingSet (IsIn Es) (D ∖ only e)
        rest_minimal e is spare =
            own_minimal (IsIn Es) (D ∖ only e) spare (λ k there.
            let mine : HasOwn (IsIn More) D k = own k (rest_within D e k there) in
            elim ((more mine.0).0 mine.1) [
              | inl before ↦ (mine.0, before, record { element = there; hit = mine.2.hit; alone = λ j inside hit. mine.2.alone j (rest_within D e j inside) hit })
              | inr same ↦
                  let hit : IsTrue (C k) = subst (λ (F : Set ℕ). IsTrue (F k)) (sym same) mine.2.hit in
                  absurd (rest_other D e k there ((alone e is spare).alone k (rest_within D e k there) hit))
            ])
