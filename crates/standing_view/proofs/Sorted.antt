-- What a sort of environments by the order of some slots gives.
use Rattle.std.proofs.Common.{◌≡◌, ℕ, ◌<◌, ◌⊎◌, inl, inr, true, false, List, length, get_or, Ordering, Less, Equal, Greater, refl, sym, subst, ◌∙◌, arith}
use Rattle.std.specs.Cmp.{IsStrictWeakOrder}
use Rattle.std.specs.Ordering.{is_lt}
use Rattle.std.specs.List.Sorted.{IsPermutation, IsSortedBy}
use Rattle.std.proofs.lemmas.Bool.{and_parts, and_from, both_ways, false_from_ne_true, false≢true}
use Rattle.std.proofs.lemmas.List.Sorted.{sorted_far}
use Rattle.circuit_model.proofs.Settled.{same_set}
use Rattle.environment_sets.specs.declared.environment.Env.{Env}
use Rattle.environment_sets.specs.Sets.{Set, ◌⊆◌, ◌∩◌}
use Rattle.environment_sets.specs.Members.{members, sets}
use Rattle.environment_sets.specs.Lists.{IsIn, IsListing, IsRoster}
use Rattle.environment_sets.specs.Orders.{compare_in, ComesBefore, ListsAll}
use Rattle.environment_sets.proofs.Listings.{IsIn-get_or}
use Rattle.environment_sets.proofs.Membership.{IsIn-map, map-IsIn}
use Rattle.environment_sets.proofs.OrderLaws.{order_is_strict, order_is_transitive, order_is_total}
use Rattle.environment_sets.proofs.Slots.{same_slots_are_equal}
use Rattle.environment_sets.proofs.Sorting.{StandOnce, once_permuted, IsIn-permutation, rising_by_place, rising_map, distinct_unmapped}
use Rattle.standing_view.specs.Conflicts.{compare_inside, is_before}

less_of : (o : Ordering) → is_lt o ≡ true → o ≡ Less
less_of Less h = refl
less_of Equal h = absurd (false≢true h)
less_of Greater h = absurd (false≢true h)

of_less : (o : Ordering) → o ≡ Less → is_lt o ≡ true
of_less o e = rw e refl

module _ (order : List ℕ) (L : Set ℕ) (listed : ListsAll order L) where
  abbrev shown : Env → Set ℕ
  shown a = members a ∩ L

  abbrev Before : Env → Env → Type 0
  Before a b = ComesBefore order (shown a) (shown b)

  shown_listed : (a : Env) → ListsAll order (shown a)
  shown_listed a k h = listed k (and_parts (members a k) (L k) h).1

  before_of : (a b : Env) → is_before order L a b ≡ true → Before a b
  unfolding compare_inside
  before_of a b h = less_of (compare_in order (shown a) (shown b)) h

  of_before : (a b : Env) → Before a b → is_before order L a b ≡ true
  unfolding compare_inside
  of_before a b h = of_less (compare_in order (shown a) (shown b)) h

  -- what is not before another is after it, or equal to it
  after_or_same : (a b : Env) → is_before order L a b ≡ false → (shown a ≡ shown b) ⊎ Before b a
  after_or_same a b out = elim (order_is_total ℕ order (shown a) (shown b) (shown_listed a) (shown_listed b)) as (λ _. (shown a ≡ shown b) ⊎ Before b a) [
    | inl before ↦ absurd (both_ways (is_before order L a b) out (of_before a b before))
    | inr rest ↦ rest
  ]

  never_after : (a b : Env) → (shown a ≡ shown b) ⊎ Before b a → Before a b → ⊥
  never_after a b (inl same) before =
      let itself : ComesBefore order (shown b) (shown b) = subst (λ (E : Set ℕ). ComesBefore order E (shown b)) same before in
      order_is_strict ℕ order (shown b) (shown b) itself itself
  never_after a b (inr after) before = order_is_strict ℕ order (shown a) (shown b) before after

  after_along : (a b c : Env) → (shown a ≡ shown b) ⊎ Before b a → (shown b ≡ shown c) ⊎ Before c b → (shown a ≡ shown c) ⊎ Before c a
  after_along a b c (inl e) (inl f) = inl (e ∙ f)
  after_along a b c (inl e) (inr h) = inr (subst (λ (E : Set ℕ). ComesBefore order (shown c) E) (sym e) h)
  after_along a b c (inr h) (inl e) = inr (subst (λ (E : Set ℕ). ComesBefore order E (shown a)) e h)
  after_along a b c (inr h) (inr k) = inr (order_is_transitive ℕ order (shown c) (shown b) (shown a) k h)

  pub is_order : IsStrictWeakOrder (is_before order L)
  is_order =
      record {
        one_way = λ a b h. false_from_ne_true (is_before order L b a) (λ k. order_is_strict ℕ order (shown a) (shown b) (before_of a b h) (before_of b a k));
        chain = λ a b c h k. false_from_ne_true (is_before order L a c) (λ m. never_after a c (after_along a b c (after_or_same a b h) (after_or_same b c k)) (before_of a c m));
      }

  -- the environments of a sorted list are a listing
  pub sorted_listing : (P : Set ℕ → Type 0) (es ys : List Env) → ((E : Set ℕ) → P E → E ⊆ L) → IsRoster P (sets es) → IsPermutation es ys → IsSortedBy (is_before order L) ys → IsListing (ComesBefore order) P (sets ys)
  sorted_listing P es ys inside roster permuted up =
      record {
        rising = rising_map members (ComesBefore order) ys (rising_by_place (λ a b. ComesBefore order (members a) (members b)) ys rises);
        exact = λ E. (
          λ h. let e : (e : Env) × IsIn ys e × (members e ≡ E) = IsIn-map members ys E h in
              (roster.exact E).0 (subst (IsIn (sets es)) e.2 (map-IsIn members es e.0 ((IsIn-permutation es ys permuted e.0).1 e.1))),
          λ h. let e : (e : Env) × IsIn es e × (members e ≡ E) = IsIn-map members es E ((roster.exact E).1 h) in
              subst (IsIn (sets ys)) e.2 (map-IsIn members ys e.0 ((IsIn-permutation es ys permuted e.0).0 e.1)),
        );
      }
    where
      once : StandOnce ys
      once = once_permuted es ys (distinct_unmapped members es roster.distinct) permuted

      all_shown : (a : Env) → IsIn ys a → shown a ≡ members a
      all_shown a h =
          let held : P (members a) = (roster.exact (members a)).0 (map-IsIn members es a ((IsIn-permutation es ys permuted a).1 h)) in
          same_set (shown a) (members a) (λ k is. (and_parts (members a k) (L k) is).0) (λ k is. and_from (members a k) (L k) is (inside (members a) held k is))

      rises : (i j : ℕ) (d : Env) → i < j → j < length ys → ComesBefore order (members (get_or ys i d)) (members (get_or ys j d))
      rises i j d less low =
          let a : Env = get_or ys i d in
          let b : Env = get_or ys j d in
          let h : IsIn ys a = IsIn-get_or ys i d (omega arith) in
          let k : IsIn ys b = IsIn-get_or ys j d low in
          elim (after_or_same b a (sorted_far (is_before order L) is_order ys up i j d (omega arith) low)) as (λ _. ComesBefore order (members a) (members b)) [
            | inl same ↦
                let equal : members b ≡ members a = sym (all_shown b k) ∙ (same ∙ all_shown a h) in
                let twice : j ≡ i = once j i d low (omega arith) (same_slots_are_equal b a equal) in
                absurd (omega arith)
            | inr before ↦ subst (λ (E : Set ℕ). ComesBefore order E (members b)) (all_shown a h) (subst (λ (E : Set ℕ). ComesBefore order (shown a) E) (all_shown b k) before)
          ]
