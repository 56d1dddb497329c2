-- What the size of what two sets share says.
use Rattle.std.proofs.Common.{◌≡◌, ℕ, ◌<◌, ◌⊎◌, inl, inr, IsTrue, ◌↔◌, refl, sym, ap, ◌∙◌, arith}
use Rattle.std.proofs.lemmas.Bool.{and_parts, and_from, cases_lt}
use Rattle.environment_sets.specs.Sets.{Set, ◌∩◌, IsBelow, size_below, Hits}
use Rattle.environment_sets.proofs.Elements.{some_element, has_size, one_element, size_one}
use Rattle.hitting_sets.specs.Own.{IsAlone}

-- where two sets share one number, it is the one that each shares with the other
pub shares_one : (n : ℕ) (D C S : Set ℕ) → IsBelow n C → S ≡ D ∩ C → size_below n S ≡ 1 → (k : ℕ) → IsTrue (S k) ↔ IsAlone D C k
shares_one n D C S low both size k = (
  λ is.
      let parts : IsTrue (D k) × IsTrue (C k) = and_parts (D k) (C k) (sym (ap (λ E. E k) both) ∙ is) in
      record {
        element = parts.0;
        hit = parts.1;
        alone = λ j element hit. one_element n S (omega arith) j k (low j hit) (low k parts.1) (ap (λ E. E j) both ∙ and_from (D j) (C j) element hit) is;
      },
  λ alone. ap (λ E. E k) both ∙ and_from (D k) (C k) alone.element alone.hit,
)

-- and where they do not share one number, none is
pub shares_not_one : (n : ℕ) (D C S : Set ℕ) → IsBelow n C → S ≡ D ∩ C → (size_below n S ≡ 1 → ⊥) → (k : ℕ) → IsAlone D C k → ⊥
shares_not_one n D C S low both size k alone =
    size (size_one n S k (low k alone.hit) (ap (λ E. E k) both ∙ and_from (D k) (C k) alone.element alone.hit) (λ j is.
    let parts : IsTrue (D j) × IsTrue (C j) = and_parts (D j) (C j) (sym (ap (λ E. E j) both) ∙ is) in
    alone.alone j parts.0 parts.1))

-- two sets share a number or not
pub hits_of_size : (n : ℕ) (D C S : Set ℕ) → IsBelow n C → S ≡ D ∩ C → (0 < size_below n S) ↔ Hits D C
hits_of_size n D C S low both = (
  λ some.
      let r : (k : ℕ) × (k < n) × IsTrue (S k) = some_element n S some in
      let parts : IsTrue (D r.0) × IsTrue (C r.0) = and_parts (D r.0) (C r.0) (sym (ap (λ E. E r.0) both) ∙ r.2) in
      (r.0, parts.0, parts.1),
  λ hit. has_size n S hit.0 (low hit.0 hit.2) (ap (λ E. E hit.0) both ∙ and_from (D hit.0) (C hit.0) hit.1 hit.2),
)

pub hits_or_not : (n : ℕ) (D C : Set ℕ) → IsBelow n C → Hits D C ⊎ (Hits D C → ⊥)
hits_or_not n D C low =
    elim (cases_lt 0 (size_below n (D ∩ C))) [
      | inl some ↦ inl ((hits_of_size n D C (D ∩ C) low refl).0 some)
      | inr small ↦ inr (λ hit. let some : 0 < size_below n (D ∩ C) = (hits_of_size n D C (D ∩ C) low refl).1 hit in omega arith)
    ]
