-- How many pairs of a target and an environment are not yet covered.
use Rattle.std.proofs.Common.{◌≡◌, ℕ, zero, suc, ◌+◌, ◌^◌, ◌≤◌, ◌<◌, ◌⊎◌, inl, inr, Bool, true, false, ◌||◌, ◌==◌, cond, IsTrue, IsFalse, refl, sym, ap, subst, ◌∙◌, Some, None, arith}
use Rattle.std.proofs.lemmas.Bool.Decides.{nat_tests}
use mathlib.Core.Path.{fun_ext}
use Rattle.circuit_model.specs.Closure.{fact}
use Rattle.environment_sets.specs.declared.environment.TheConstants.{SLOTS}
use Rattle.environment_sets.specs.Sets.{Set, IsBelow, no_elements}
use Rattle.propagation.specs.Propagating.{Target}
use Rattle.propagation.specs.Uncovered.{total, with, over_sets, gap, TargetFits, uncovered}

total_le : (n : ℕ) (f g : ℕ → ℕ) → ((k : ℕ) → f k ≤ g k) → total n f ≤ total n g
unfolding total
total_le zero f g le = omega arith
total_le (suc n) f g le = omega (arith, total_le n f g le, le n)

pub lower_or_last : (k n : ℕ) → k < suc n → (k < n) ⊎ (k ≡ n)
lower_or_last k n h = grind arith

total_less : (n : ℕ) (f g : ℕ → ℕ) → ((k : ℕ) → f k ≤ g k) → (k : ℕ) → k < n → f k < g k → total n f < total n g
unfolding total
total_less zero f g le k low less = absurd (omega arith)
total_less (suc n) f g le k low less =
    elim (lower_or_last k n low) [
      | inl lower ↦ omega (arith, total_less n f g le k lower less, le n)
      | inr last ↦ let here : f n < g n = (let P : ℕ → Type 0 = λ i. f i < g i in subst P last less) in omega (arith, total_le n f g le, here)
    ]

over_sets_le : (n : ℕ) (f g : Set ℕ → ℕ) → ((E : Set ℕ) → f E ≤ g E) → (B : Set ℕ) → over_sets n f B ≤ over_sets n g B
unfolding over_sets
over_sets_le zero f g le B = le B
over_sets_le (suc n) f g le B = omega (arith, over_sets_le n f g le B, over_sets_le n f g le (with n B))

other : (k n : ℕ) → (k ≡ n → ⊥) → (k == n) ≡ false
other k n ne = grind (arith, nat_tests)

same : (n : ℕ) → (n == n) ≡ true
same n = grind (arith, nat_tests)

at_or_above : (k n : ℕ) → n ≤ k → (suc n ≤ k) ⊎ (k ≡ n)
at_or_above k n h = grind arith

over_sets_less : (n : ℕ) (f g : Set ℕ → ℕ) → ((E : Set ℕ) → f E ≤ g E) → (B E : Set ℕ) → ((k : ℕ) → k < n → IsFalse (B k)) → ((k : ℕ) → n ≤ k → E k ≡ B k) → f E < g E → over_sets n f B < over_sets n g B
unfolding over_sets
over_sets_less zero f g le B E low high less = let e : E ≡ B = fun_ext (λ k. high k (omega arith)) in let P : Set ℕ → Type 0 = λ F. f F < g F in subst P e less
over_sets_less (suc n) f g le B E low high less =
    elim (E n) as (λ b. E n ≡ b → over_sets n f B + over_sets n f (with n B) < over_sets n g B + over_sets n g (with n B)) [
      | true ↦ λ is.
          let more : over_sets n f (with n B) < over_sets n g (with n B) = over_sets_less n f g le (with n B) E (λ k h. ap (λ b. b || B k) (other k n (λ e. omega arith)) ∙ low k (omega arith)) (λ k h. elim (at_or_above k n h) [
            | inl above ↦ high k above ∙ sym (ap (λ b. b || B k) (other k n (λ e. omega arith)))
            | inr here ↦ ap E here ∙ (is ∙ sym (ap (λ i. (i == n) || B i) here ∙ ap (λ b. b || B n) (same n)))
          ]) less in
          omega (arith, more, over_sets_le n f g le B)
      | false ↦ λ out.
          let more : over_sets n f B < over_sets n g B = over_sets_less n f g le B E (λ k h. low k (omega arith)) (λ k h. elim (at_or_above k n h) [
            | inl above ↦ high k above
            | inr here ↦ ap E here ∙ (out ∙ sym (ap B here ∙ low n (omega arith)))
          ]) less in
          omega (arith, more, over_sets_le n f g le (with n B))
    ] refl

module _ (old new : Target → Set ℕ → Bool) (stays : (t : Target) (E : Set ℕ) → IsTrue (old t E) → IsTrue (new t E)) where
  gap_le : (t : Target) (E : Set ℕ) → gap new t E ≤ gap old t E
  gap_le t E =
      elim (old t E) as (λ b. old t E ≡ b → gap new t E ≤ cond b 0 1) [
        | true ↦ λ is. rw (stays t E is) (omega arith)
        | false ↦ λ _. elim (new t E) as (λ b. cond b 0 1 ≤ 1) [ true ↦ omega arith | false ↦ omega arith ]
      ] refl

  gap_less : (t : Target) (E : Set ℕ) → IsFalse (old t E) → IsTrue (new t E) → gap new t E < gap old t E
  gap_less t E out is = rw (out, is) (omega arith)

  sets_le : (t : Target) → over_sets SLOTS (gap new t) no_elements ≤ over_sets SLOTS (gap old t) no_elements
  sets_le t = over_sets_le SLOTS (gap new t) (gap old t) (gap_le t) no_elements

  sets_less : (t : Target) (E : Set ℕ) → IsBelow SLOTS E → IsFalse (old t E) → IsTrue (new t E) → over_sets SLOTS (gap new t) no_elements < over_sets SLOTS (gap old t) no_elements
  sets_less t E low out is = over_sets_less SLOTS (gap new t) (gap old t) (gap_le t) no_elements E (λ k h. refl) (λ k h. not_in k h (E k) refl) (gap_less t E out is)
    where
      not_in : (k : ℕ) → SLOTS ≤ k → (b : Bool) → E k ≡ b → E k ≡ false
      not_in k h true e = absurd (let lower : k < SLOTS = low k e in omega arith)
      not_in k h false e = e

  -- an environment that is put in where it was not covered leaves fewer
  pub uncovered_less : (t : Target) (E : Set ℕ) → TargetFits t → IsBelow SLOTS E → IsFalse (old t E) → IsTrue (new t E) → uncovered new < uncovered old
  unfolding uncovered
  uncovered_less None E fits low out is =
      omega (arith, sets_less None E low out is, total_le (2 ^ 16) (λ net. total (2 ^ 8) (λ cycle. total (2 ^ 64) (λ value. over_sets SLOTS (gap new (Some (fact (record { net = net; cycle = cycle }) value))) no_elements))) (λ net. total (2 ^ 8) (λ cycle. total (2 ^ 64) (λ value. over_sets SLOTS (gap old (Some (fact (record { net = net; cycle = cycle }) value))) no_elements))) (λ net. total_le (2 ^ 8) _ _ (λ cycle. total_le (2 ^ 64) _ _ (λ value. sets_le (Some (fact (record { net = net; cycle = cycle }) value))))))
  uncovered_less (Some f) E fits low out is =
      omega (
        arith,
        sets_le None,
        total_less (2 ^ 16) (λ net. total (2 ^ 8) (λ cycle. total (2 ^ 64) (λ value. over_sets SLOTS (gap new (Some (fact (record { net = net; cycle = cycle }) value))) no_elements))) (λ net. total (2 ^ 8) (λ cycle. total (2 ^ 64) (λ value. over_sets SLOTS (gap old (Some (fact (record { net = net; cycle = cycle }) value))) no_elements))) (λ net. total_le (2 ^ 8) _ _ (λ cycle. total_le (2 ^ 64) _ _ (λ value. sets_le (Some (fact (record { net = net; cycle = cycle }) value)))))
            f.cell.net fits.net (total_less (2 ^ 8) (λ cycle. total (2 ^ 64) (λ value. over_sets SLOTS (gap new (Some (fact (record { net = f.cell.net; cycle = cycle }) value))) no_elements)) (λ cycle. total (2 ^ 64) (λ value. over_sets SLOTS (gap old (Some (fact (record { net = f.cell.net; cycle = cycle }) value))) no_elements)) (λ cycle. total_le (2 ^ 64) _ _ (λ value. sets_le (Some (fact (record { net = f.cell.net; cycle = cycle }) value))))
            f.cell.cycle fits.cycle (total_less (2 ^ 64) (λ value. over_sets SLOTS (gap new (Some (fact f.cell value))) no_elements) (λ value. over_sets SLOTS (gap old (Some (fact f.cell value))) no_elements) (λ value. sets_le (Some (fact f.cell value)))
            f.value fits.value (sets_less (Some f) E low out is))),
      )
