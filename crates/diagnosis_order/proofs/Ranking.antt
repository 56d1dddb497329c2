-- What a sort of ranked environments gives.
use Rattle.std.proofs.Common.{◌≡◌, ℕ, zero, suc, ◌<◌, ◌⊎◌, inl, inr, true, false, IsTrue, ◌↔◌, List, [], ◌∷◌, length, get_or, map, refl, sym, ap, ap₂, subst, ◌∙◌, arith}
use Rattle.std.specs.Cmp.{IsStrictWeakOrder}
use Rattle.std.specs.List.{Contains, swap}
use Rattle.std.specs.List.Sorted.{IsPermutation, IsSortedBy}
use Rattle.std.proofs.lemmas.Bool.{and_parts, and_from, both_ways, cases_eq, false_from_ne_true}
use Rattle.std.proofs.lemmas.List.Edits.{Swapped, swapped_from_swap, length-swap}
use Rattle.std.proofs.lemmas.List.Sorted.{IsPermutation-keeps, IsPermutation-sym, Contains-permutation, sorted_far}
use mathlib.Core.Path.{fun_ext}
use Rattle.environment_sets.specs.declared.environment.Env.{Env}
use Rattle.environment_sets.specs.Sets.{Set, ◌∩◌}
use Rattle.environment_sets.specs.Members.{members, sets, HasMember}
use Rattle.environment_sets.specs.Lists.{IsIn, IsRising, AreDistinct, IsListing}
use Rattle.environment_sets.specs.Orders.{compare_in, ListsAll}
use Rattle.environment_sets.proofs.Listings.{IsIn-get_or}
use Rattle.environment_sets.proofs.Membership.{same_bool, IsIn-map, map-IsIn}
use Rattle.environment_sets.proofs.Slots.{same_slots_are_equal}
use Rattle.environment_sets.proofs.Sorting.{StandOnce, once_permuted, IsIn-permutation, rising_by_place, rising_map, distinct_unmapped}
use Rattle.diagnosis_order.specs.declared.ranks.Ranked.{Ranked}
use Rattle.environment_sets.specs.Costs.{cost_in, ComesBeforeByCost, ListsEach}
use Rattle.diagnosis_order.specs.Ranks.{ranked_of, compare_ranks, is_before}
use Rattle.environment_sets.proofs.CostOrder.{Precedes, Precedes-strict, Precedes-along, Precedes-total, before_less, less_before}

map_undone : {X Y Z : Type 0} (f : X → Y) (g : Y → Z) (h : X → Z) → ((x : X) → g (f x) ≡ h x) → (xs : List X) → map g (map f xs) ≡ map h xs
map_undone f g h same [] = refl
map_undone f g h same (x ∷ xs) = ap₂ (λ z zs. z ∷ zs) (same x) (map_undone f g h same xs)

-- the comparison of ranked environments is an order
module _ (order : List ℕ) (L : Set ℕ) (listed : ListsAll order L) where
  abbrev shown : Ranked → Set ℕ
  shown a = members a.set ∩ L

  abbrev Before : Ranked → Ranked → Type 0
  Before a b = Precedes order a.cost (shown a) b.cost (shown b)

  shown_listed : (a : Ranked) → ListsAll order (shown a)
  shown_listed a k h = listed k (and_parts (members a.set k) (L k) h).1

  before_of : (a b : Ranked) → is_before order L a b ≡ true → Before a b
  unfolding compare_ranks
  before_of a b h = before_less a.cost b.cost (compare_in order (shown a) (shown b)) h

  of_before : (a b : Ranked) → Before a b → is_before order L a b ≡ true
  unfolding compare_ranks
  of_before a b h = less_before a.cost b.cost (compare_in order (shown a) (shown b)) h

  total : (a b : Ranked) → Before a b ⊎ (((a.cost ≡ b.cost) × (shown a ≡ shown b)) ⊎ Before b a)
  total a b = Precedes-total order a.cost (shown a) b.cost (shown b) (shown_listed a) (shown_listed b)

  -- what is not before another is after it, or equal to it
  after_or_same : (a b : Ranked) → is_before order L a b ≡ false → ((a.cost ≡ b.cost) × (shown a ≡ shown b)) ⊎ Before b a
  after_or_same a b out =
      elim (total a b) [
        | inl before ↦ absurd (both_ways (is_before order L a b) out (of_before a b before))
        | inr rest ↦ rest
      ]

  never_after : (a b : Ranked) → ((a.cost ≡ b.cost) × (shown a ≡ shown b)) ⊎ Before b a → Before a b → ⊥
  never_after a b (inl (costs, same)) before =
      let itself : Precedes order b.cost (shown b) b.cost (shown b) =
      subst (λ (c : ℕ). Precedes order c (shown b) b.cost (shown b)) costs (subst (λ (E : Set ℕ). Precedes order a.cost E b.cost (shown b)) same before) in
      Precedes-strict order b.cost (shown b) b.cost (shown b) itself itself
  never_after a b (inr after) before = Precedes-strict order a.cost (shown a) b.cost (shown b) before after

  after_along : (a b c : Ranked) → ((a.cost ≡ b.cost) × (shown a ≡ shown b)) ⊎ Before b a → ((b.cost ≡ c.cost) × (shown b ≡ shown c)) ⊎ Before c b → ((a.cost ≡ c.cost) × (shown a ≡ shown c)) ⊎ Before c a
  after_along a b c (inl (e, f)) (inl (g, h)) = inl (e ∙ g, f ∙ h)
  after_along a b c (inl (e, f)) (inr h) = inr (subst (λ (E : Set ℕ). Precedes order c.cost (shown c) a.cost E) (sym f) (subst (λ (x : ℕ). Precedes order c.cost (shown c) x (shown b)) (sym e) h))
  after_along a b c (inr h) (inl (e, f)) = inr (subst (λ (E : Set ℕ). Precedes order c.cost E a.cost (shown a)) f (subst (λ (x : ℕ). Precedes order x (shown b) a.cost (shown a)) e h))
  after_along a b c (inr h) (inr k) = inr (Precedes-along order c.cost (shown c) b.cost (shown b) a.cost (shown a) k h)

  pub is_order : IsStrictWeakOrder (is_before order L)
  is_order =
      record {
        one_way = λ a b h. false_from_ne_true (is_before order L b a) (λ k. Precedes-strict order a.cost (shown a) b.cost (shown b) (before_of a b h) (before_of b a k));
        chain = λ a b c h k. false_from_ne_true (is_before order L a c) (λ m. never_after a c (after_along a b c (after_or_same a b h) (after_or_same b c k)) (before_of a c m));
      }

  -- the environments of a sorted list are a listing
  pub sorted_listing : (costs : List ℕ) (es : List Env) (ranked : List Ranked) → ((k : ℕ) → IsIn order k → IsTrue (L k)) → ListsEach order (HasMember es) → AreDistinct (sets es) → IsPermutation (map (ranked_of order costs) es) ranked → IsSortedBy (is_before order L) ranked → IsListing (ComesBeforeByCost order costs) (HasMember es) (sets (map (λ (r : Ranked). r.set) ranked))
  sorted_listing costs es ranked inside all apart permuted up =
      record {
        rising = subst (IsRising (ComesBeforeByCost order costs)) (sym (map_undone (λ (r : Ranked). r.set) members (λ r. members r.set) (λ r. refl) ranked)) (rising_map (λ (r : Ranked). members r.set) (ComesBeforeByCost order costs) ranked (rising_by_place (λ a b. ComesBeforeByCost order costs (members a.set) (members b.set)) ranked rises));
        exact = λ E. (
          λ h. let r = IsIn-map (λ (r : Ranked). members r.set) ranked E (subst (λ (Es : List (Set ℕ)). IsIn Es E) (map_undone (λ (r : Ranked). r.set) members (λ r. members r.set) (λ r. refl) ranked) h) in subst (HasMember es) (ap (λ (a : Ranked). members a.set) (origin r.0 r.1).2 ∙ r.2) (map-IsIn members es (origin r.0 r.1).0 (origin r.0 r.1).1),
          λ h. let r : (e : Env) × IsIn es e × (members e ≡ E) = IsIn-map members es E h in
              subst (λ (Es : List (Set ℕ)). IsIn Es E) (sym (map_undone (λ (r : Ranked). r.set) members (λ r. members r.set) (λ r. refl) ranked)) (subst (IsIn (map (λ (r : Ranked). members r.set) ranked)) r.2 (map-IsIn (λ (r : Ranked). members r.set) ranked (ranked_of order costs r.0) ((IsIn-permutation (map (ranked_of order costs) es) ranked permuted (ranked_of order costs r.0)).0 (map-IsIn (ranked_of order costs) es r.0 r.1)))),
        );
      }
    where
      -- each ranked environment is one of the list with its cost
      origin : (a : Ranked) → IsIn ranked a → (e : Env) × IsIn es e × (ranked_of order costs e ≡ a)
      origin a h = IsIn-map (ranked_of order costs) es a ((IsIn-permutation (map (ranked_of order costs) es) ranked permuted a).1 h)

      once : StandOnce ranked
      once =
          once_permuted (map (ranked_of order costs) es) ranked
          (distinct_unmapped (λ (r : Ranked). members r.set) (map (ranked_of order costs) es) (subst AreDistinct (sym (map_undone (ranked_of order costs) (λ (r : Ranked). members r.set) members (λ e. refl) es)) apart))
          permuted

      true_cost : (a : Ranked) → IsIn ranked a → a.cost ≡ cost_in order costs (members a.set)
      true_cost a h = let r = origin a h in ap (λ (b : Ranked). b.cost) (sym r.2) ∙ ap (λ (b : Ranked). cost_in order costs (members b.set)) r.2

      all_shown : (a : Ranked) → IsIn ranked a → shown a ≡ members a.set
      all_shown a h =
          let r = origin a h in
          fun_ext (λ k. same_bool (shown a k) (members a.set k) (λ is. (and_parts (members a.set k) (L k) is).0) (λ is. and_from (members a.set k) (L k) is (inside k (all (members r.0) (map-IsIn members es r.0 r.1) k (ap (λ (b : Ranked). members b.set k) r.2 ∙ is)))))

      by_cost : (a b : Ranked) → IsIn ranked a → IsIn ranked b → Before a b → ComesBeforeByCost order costs (members a.set) (members b.set)
      by_cost a b h k before =
          subst (λ (c : ℕ). Precedes order c (members a.set) (cost_in order costs (members b.set)) (members b.set)) (true_cost a h)
          (subst (λ (c : ℕ). Precedes order a.cost (members a.set) c (members b.set)) (true_cost b k)
          (subst (λ (E : Set ℕ). Precedes order a.cost E b.cost (members b.set)) (all_shown a h)
          (subst (λ (E : Set ℕ). Precedes order a.cost (shown a) b.cost E) (all_shown b k) before)))

      same_rank : (a b : Ranked) → IsIn ranked a → IsIn ranked b → shown a ≡ shown b → a ≡ b
      same_rank a b h k same =
          let r = origin a h in
          let s = origin b k in
          let equal : members a.set ≡ members b.set = sym (all_shown a h) ∙ (same ∙ all_shown b k) in
          let one : r.0 ≡ s.0 = same_slots_are_equal r.0 s.0 (ap (λ (c : Ranked). members c.set) r.2 ∙ (equal ∙ ap (λ (c : Ranked). members c.set) (sym s.2))) in
          sym r.2 ∙ (ap (ranked_of order costs) one ∙ s.2)

      rises : (i j : ℕ) (d : Ranked) → i < j → j < length ranked → ComesBeforeByCost order costs (members (get_or ranked i d).set) (members (get_or ranked j d).set)
      rises i j d less low =
          let h : IsIn ranked (get_or ranked i d) = IsIn-get_or ranked i d (omega arith) in
          let k : IsIn ranked (get_or ranked j d) = IsIn-get_or ranked j d low in
          elim (after_or_same (get_or ranked j d) (get_or ranked i d) (sorted_far (is_before order L) is_order ranked up i j d (omega arith) low)) [
            | inl (costs, same) ↦ let twice : j ≡ i = once j i d low (omega arith) (same_rank (get_or ranked j d) (get_or ranked i d) k h same) in absurd (omega arith)
            | inr before ↦ by_cost (get_or ranked i d) (get_or ranked j d) h k before
          ]
