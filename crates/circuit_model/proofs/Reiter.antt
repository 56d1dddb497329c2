-- Diagnoses and minimal hitting sets.
use Rattle.std.proofs.Common.{◌≡◌, ◌≢◌, ℕ, zero, suc, ◌<◌, true, false, not, ◌&&◌, ◌==◌, nat_lt, ◌⊎◌, inl, inr, IsTrue, true≢false, refl, sym, ap, subst, ◌∙◌, arith}
use Rattle.std.proofs.lemmas.Bool.{and_parts, and_from}
use Rattle.std.proofs.lemmas.Bool.Decides.{nat_tests}
use Rattle.environment_sets.specs.Sets.{Set, ◌⊆◌, IsMinimal, IsBelow, others, Hits, HitsEach, IsMinimalHittingSet}

pub without : Set ℕ → ℕ → Set ℕ
without E k j = E j && not (j == k)

without_within : (E : Set ℕ) (k : ℕ) → without E k ⊆ E
unfolding without
without_within E k j h = (and_parts _ _ h).0

not_without_itself : (E : Set ℕ) (k : ℕ) → IsTrue (without E k k) → ⊥
unfolding without
not_without_itself E k h = grind (arith, nat_tests, (and_parts (E k) (not (k == k)) h).1)

without_other : (E : Set ℕ) (k j : ℕ) → IsTrue (E j) → j ≢ k → IsTrue (without E k j)
unfolding without
without_other E k j h d = and_from (E j) (not (j == k)) h (grind (arith, nat_tests))

without_more : (E F : Set ℕ) (k : ℕ) → E ⊆ F → without E k ⊆ without F k
unfolding without
without_more E F k within j h = and_from _ _ (within j ((and_parts _ _ h).0)) ((and_parts (E j) _ h).1)

below_split : (n k : ℕ) → k < suc n → (k < n) ⊎ (k ≡ n)
below_split n k h = grind arith

-- with a claim that grows, and a way to go on where it holds and where it does not, a smallest part of a set below n
module _ (Bad : Set ℕ → Type 0) (grows : (E F : Set ℕ) → E ⊆ F → Bad E → Bad F) (X : Type 0) (decide : (E : Set ℕ) → (Bad E → X) → ((Bad E → ⊥) → X) → X) where
  abbrev pub IsTight : ℕ → Set ℕ → Type 0
  IsTight n C = (k : ℕ) → k < n → IsTrue (C k) → Bad (without C k) → ⊥

  pub shrink : (n : ℕ) (E : Set ℕ) → Bad E → ((C : Set ℕ) → C ⊆ E → Bad C → IsTight n C → X) → X
  shrink zero E bad give = give E (λ k h. h) bad (λ k low _ _. absurd (omega arith))
  shrink (suc n) E bad give =
      decide (without E n)
      (λ less. shrink n (without E n) less (λ C within bad' tight. give C (λ k h. without_within E n k (within k h)) bad' (λ k low inside again.
      elim (below_split n k low) [
        | inl lower ↦ tight k lower inside again
        | inr same ↦ not_without_itself E n (within n (let P : ℕ → Type 0 = λ j. IsTrue (C j) in subst P same inside))
      ])))
      (λ fine. shrink n E bad (λ C within bad' tight. give C within bad' (λ k low inside again.
      elim (below_split n k low) [
        | inl lower ↦ tight k lower inside again
        | inr same ↦ fine (grows (without C k) (without E n) (let P : ℕ → Type 0 = λ j. without C k ⊆ without E j in subst P same (without_more C E k within)) again)
      ])))

-- a set that clashes does not fail to have a smallest part that does
module _ (Bad : Set ℕ → Type 0) (grows : (E F : Set ℕ) → E ⊆ F → Bad E → Bad F) (n : ℕ) where
  pub tight-least : (C : Set ℕ) → IsBelow n C → ((k : ℕ) → k < n → IsTrue (C k) → Bad (without C k) → ⊥) → (F : Set ℕ) → F ⊆ C → Bad F → C ⊆ F
  tight-least C low tight F within bad k inside =
      elim (F k) as (λ b. F k ≡ b → IsTrue b) [
        | true ↦ λ _. refl
        | false ↦ λ out. absurd (tight k (low k inside) inside (grows F (without C k) (λ j h. without_other C k j (within j h) (λ e. true≢false (sym h ∙ (ap F e ∙ out)))) bad))
      ] refl

  pub not_without_least : (E : Set ℕ) → IsBelow n E → Bad E → ((C : Set ℕ) → C ⊆ E → IsMinimal Bad C → ⊥) → ⊥
  not_without_least E low bad none =
      shrink Bad grows ⊥ (λ E yes no. no (λ b. yes b)) n E bad (λ C within bad' tight. none C within (record {
        holds = bad';
        least = tight-least C (λ k h. low k (within k h)) tight;
      }))

  -- an element of both, found by going through the numbers
  pub find : (D C : Set ℕ) (m : ℕ) → (Hits D C) ⊎ ((k : ℕ) → k < m → IsTrue (C k) → IsTrue (D k) → ⊥)
  find D C zero = inr (λ k low _ _. absurd (omega arith))
  find D C (suc m) =
      elim (find D C m) [
        | inl hit ↦ inl hit
        | inr none ↦ elim (D m && C m) as (λ b. (D m && C m) ≡ b → (Hits D C) ⊎ ((k : ℕ) → k < suc m → IsTrue (C k) → IsTrue (D k) → ⊥)) [
          | true ↦ λ both. inl (m, (and_parts (D m) (C m) both).0, (and_parts (D m) (C m) both).1)
          | false ↦ λ out. inr (λ k low c d. elim (below_split m k low) [
            | inl lower ↦ none k lower c d
            | inr same ↦ true≢false (sym (and_from (D m) (C m) (let P : ℕ → Type 0 = λ j. IsTrue (D j) in subst P same d) (let P : ℕ → Type 0 = λ j. IsTrue (C j) in subst P same c)) ∙ out)
          ])
        ] refl
      ]

  abbrev pub IsSmallest : Set ℕ → Type 0
  IsSmallest C = IsBelow n C × IsMinimal Bad C

  pub others-low : (D : Set ℕ) → IsBelow n (others n D)
  others-low D k h = grind (arith, nat_tests, (and_parts (nat_lt k n) (not (D k)) h).0)

  pub in_others : (D : Set ℕ) (k : ℕ) → k < n → (IsTrue (D k) → ⊥) → IsTrue (others n D k)
  in_others D k low out = and_from (nat_lt k n) (not (D k)) (grind (arith, nat_tests)) (elim (D k) as (λ b. D k ≡ b → IsTrue (not b)) [ true ↦ λ e. absurd (out e) | false ↦ λ _. refl ] refl)

  pub not_in_others : (D : Set ℕ) (k : ℕ) → IsTrue (others n D k) → IsTrue (D k) → ⊥
  not_in_others D k h inside = true≢false (sym ((and_parts (nat_lt k n) (not (D k)) h).1) ∙ ap not inside)

  -- where the others are consistent, each smallest clash is hit
  pub hits_of_consistent : (D : Set ℕ) → (Bad (others n D) → ⊥) → HitsEach IsSmallest D
  hits_of_consistent D fine C small =
      elim (find D C n) [
        | inl hit ↦ hit
        | inr none ↦ absurd (fine (grows C (others n D) (λ k h. in_others D k (small.0 k h) (λ d. none k (small.0 k h) h d)) small.1.holds))
      ]

  -- where each smallest clash is hit, the others are consistent
  pub consistent_of_hits : (D : Set ℕ) → HitsEach IsSmallest D → Bad (others n D) → ⊥
  consistent_of_hits D hits bad =
      not_without_least (others n D) (others-low D) bad (λ C within least.
      let hit : Hits D C = hits C (λ k h. others-low D k (within k h), least) in
      not_in_others D hit.0 (within hit.0 hit.2) hit.1)

  pub diagnosis-hits : (D : Set ℕ) → IsMinimal (λ D. Bad (others n D) → ⊥) D → IsMinimalHittingSet IsSmallest D
  diagnosis-hits D m = record {
    holds = hits_of_consistent D m.holds;
    least = λ F within hits. m.least F within (consistent_of_hits F hits);
  }

  pub hits-diagnosis : (D : Set ℕ) → IsMinimalHittingSet IsSmallest D → IsMinimal (λ D. Bad (others n D) → ⊥) D
  hits-diagnosis D m = record {
    holds = consistent_of_hits D m.holds;
    least = λ F within fine. m.least F within (hits_of_consistent F fine);
  }
