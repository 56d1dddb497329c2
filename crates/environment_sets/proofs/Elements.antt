-- What the size of a set of numbers below a bound says of its elements.
use Rattle.std.proofs.Common.{◌≡◌, ℕ, zero, suc, ◌+◌, ◌<◌, ◌≤◌, inl, inr, Bool, true, false, cond, IsTrue, refl, sym, ap, ◌∙◌, arith}
use Rattle.std.proofs.lemmas.Bool.{cases_lt, false_from_ne_true}
use Rattle.environment_sets.specs.Sets.{Set, size_below}
use Rattle.environment_sets.proofs.Sizes.{last_or_lower}

abbrev one : Bool → ℕ
one b = cond b 1 0

-- a set of some size has an element
pub some_element : (n : ℕ) (E : Set ℕ) → 0 < size_below n E → (k : ℕ) × (k < n) × IsTrue (E k)
unfolding size_below
some_element zero E h = absurd (omega arith)
some_element (suc n) E h =
    elim (E n) as (λ b. E n ≡ b → 0 < size_below n E + one b → (k : ℕ) × (k < suc n) × IsTrue (E k)) [
      | true ↦ λ is _. (n, omega arith, is)
      | false ↦ λ _ g. let r : (k : ℕ) × (k < n) × IsTrue (E k) = some_element n E (omega arith) in (r.0, omega (arith, r.1), r.2)
    ] refl h

-- a set with an element has a size
pub has_size : (n : ℕ) (E : Set ℕ) (k : ℕ) → k < n → IsTrue (E k) → 0 < size_below n E
unfolding size_below
has_size zero E k low is = absurd (omega arith)
has_size (suc n) E k low is =
    elim (last_or_lower k n low) [
      | inl e ↦ let last : one (E n) ≡ 1 = ap one (ap E (sym e) ∙ is) in omega arith
      | inr lower ↦ omega (arith, has_size n E k lower is)
    ]

-- a set of size one has no two elements
pub one_element : (n : ℕ) (E : Set ℕ) → size_below n E ≤ 1 → (j k : ℕ) → j < n → k < n → IsTrue (E j) → IsTrue (E k) → j ≡ k
unfolding size_below
one_element zero E small j k low lower is there = absurd (omega arith)
one_element (suc n) E small j k low lower is there =
    elim (last_or_lower j n low) [
      | inl e ↦ elim (last_or_lower k n lower) [
        | inl f ↦ e ∙ sym f
        | inr g ↦ let last : one (E n) ≡ 1 = ap one (ap E (sym e) ∙ is) in absurd (omega (arith, has_size n E k g there))
      ]
      | inr g ↦ elim (last_or_lower k n lower) [
        | inl f ↦ let last : one (E n) ≡ 1 = ap one (ap E (sym f) ∙ there) in absurd (omega (arith, has_size n E j g is))
        | inr h ↦ one_element n E (omega arith) j k g h is there
      ]
    ]

no_size : (n : ℕ) (E : Set ℕ) → ((k : ℕ) → k < n → IsTrue (E k) → ⊥) → size_below n E ≡ 0
no_size n E none =
    elim (cases_lt 0 (size_below n E)) [
      | inl some ↦ let r : (k : ℕ) × (k < n) × IsTrue (E k) = some_element n E some in absurd (none r.0 r.1 r.2)
      | inr small ↦ omega arith
    ]

-- a set with one element has size one
pub size_one : (n : ℕ) (E : Set ℕ) (k : ℕ) → k < n → IsTrue (E k) → ((j : ℕ) → IsTrue (E j) → j ≡ k) → size_below n E ≡ 1
unfolding size_below
size_one zero E k low is only = absurd (omega arith)
size_one (suc n) E k low is only =
    elim (last_or_lower k n low) [
      | inl e ↦
          let last : one (E n) ≡ 1 = ap one (ap E (sym e) ∙ is) in
          let rest : size_below n E ≡ 0 = no_size n E (λ j lower there. let same : j ≡ k = only j there in omega arith) in
          omega arith
      | inr lower ↦
          let rest : size_below n E ≡ 1 = size_one n E k lower is only in
          let out : E n ≡ false = false_from_ne_true (E n) (λ there. let same : n ≡ k = only n there in omega arith) in
          let last : one (E n) ≡ 0 = ap one out in
          omega arith
    ]
