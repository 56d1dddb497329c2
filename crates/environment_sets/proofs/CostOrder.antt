-- The order by cost is an order.
use Rattle.std.proofs.Common.{◌≡◌, ℕ, ◌<◌, ◌⊎◌, inl, inr, true, List, Ordering, Less, Equal, Greater, sym, ◌∙◌, nat_cmp, arith}
use Rattle.std.specs.Ordering.{is_lt}
use Rattle.std.proofs.lemmas.Bool.{cases_order}
use Rattle.std.proofs.lemmas.Bool.Decides.{nat_tests}
use Rattle.environment_sets.specs.Sets.{Set}
use Rattle.environment_sets.specs.Lists.{IsStrict}
use Rattle.environment_sets.specs.Orders.{first_of_both, ComesBefore, ListsAll}
use Rattle.environment_sets.specs.Costs.{cost_in, ComesBeforeByCost}
use Rattle.environment_sets.proofs.OrderLaws.{order_is_strict, order_is_transitive, order_is_total}

-- c is less than d, or they are equal and E comes before F
abbrev pub Precedes : {N : Type 0} → List N → ℕ → Set N → ℕ → Set N → Type 0
Precedes order c E d F = (c < d) ⊎ ((c ≡ d) × ComesBefore order E F)

module _ {N : Type 0} (order : List N) where
  pub Precedes-strict : (c : ℕ) (E : Set N) (d : ℕ) (F : Set N) → Precedes order c E d F → Precedes order d F c E → ⊥
  Precedes-strict c E d F (inl a) (inl b) = omega arith
  Precedes-strict c E d F (inl a) (inr b) = omega (arith, b.0)
  Precedes-strict c E d F (inr a) (inl b) = omega (arith, a.0)
  Precedes-strict c E d F (inr a) (inr b) = order_is_strict N order E F a.1 b.1

  pub Precedes-along : (c : ℕ) (E : Set N) (d : ℕ) (F : Set N) (e : ℕ) (G : Set N) → Precedes order c E d F → Precedes order d F e G → Precedes order c E e G
  Precedes-along c E d F e G (inl a) (inl b) = inl (omega arith)
  Precedes-along c E d F e G (inl a) (inr b) = inl (omega (arith, b.0))
  Precedes-along c E d F e G (inr a) (inl b) = inl (omega (arith, a.0))
  Precedes-along c E d F e G (inr a) (inr b) = inr (a.0 ∙ b.0, order_is_transitive N order E F G a.1 b.1)

  pub Precedes-total : (c : ℕ) (E : Set N) (d : ℕ) (F : Set N) → ListsAll order E → ListsAll order F → Precedes order c E d F ⊎ (((c ≡ d) × (E ≡ F)) ⊎ Precedes order d F c E)
  Precedes-total c E d F all others =
      elim (cases_order c d) [
        | inl same ↦ elim (order_is_total N order E F all others) [
          | inl before ↦ inl (inr (same, before))
          | inr (inl equal) ↦ inr (inl (same, equal))
          | inr (inr after) ↦ inr (inr (inr (sym same, after)))
        ]
        | inr (inl less) ↦ inl (inl less)
        | inr (inr more) ↦ inr (inr (inl more))
      ]

pub before_less : (c d : ℕ) (o : Ordering) → is_lt (first_of_both (nat_cmp c d) o) ≡ true → (c < d) ⊎ ((c ≡ d) × (o ≡ Less))
before_less c d Less h = grind (arith, nat_tests)
before_less c d Equal h = grind (arith, nat_tests)
before_less c d Greater h = grind (arith, nat_tests)

pub less_before : (c d : ℕ) (o : Ordering) → (c < d) ⊎ ((c ≡ d) × (o ≡ Less)) → is_lt (first_of_both (nat_cmp c d) o) ≡ true
less_before c d Less h = grind (arith, nat_tests)
less_before c d Equal h = grind (arith, nat_tests)
less_before c d Greater h = grind (arith, nat_tests)

module _ {N : Type 0} (order : List N) (costs : List ℕ) where
  pub cost_order_is_strict : IsStrict (ComesBeforeByCost order costs)
  cost_order_is_strict E F = Precedes-strict order (cost_in order costs E) E (cost_in order costs F) F

  pub cost_order_is_transitive : (E F G : Set N) → ComesBeforeByCost order costs E F → ComesBeforeByCost order costs F G → ComesBeforeByCost order costs E G
  cost_order_is_transitive E F G = Precedes-along order (cost_in order costs E) E (cost_in order costs F) F (cost_in order costs G) G

  pub cost_order_is_total : (E F : Set N) → ListsAll order E → ListsAll order F → ComesBeforeByCost order costs E F ⊎ ((E ≡ F) ⊎ ComesBeforeByCost order costs F E)
  cost_order_is_total E F all others =
      elim (Precedes-total order (cost_in order costs E) E (cost_in order costs F) F all others) [
        | inl before ↦ inl before
        | inr (inl same) ↦ inr (inl same.1)
        | inr (inr after) ↦ inr (inr after)
      ]
