-- Sets of component slots, and of positions.
use Rattle.std.proofs.Common.{◌≡◌, ℕ, zero, suc, ◌+◌, ◌<◌, ◌==◌, ◌&&◌, ◌||◌, inl, inr, Bool, true, false, cond, not, IsTrue, true≢false, List, [], ◌∷◌, ◌++◌, length, map, Some, Ordering, Less, Equal, Greater, nat_cmp, refl, sym, ap, ap₂, subst, ◌∙◌, arith, zero-add}
use Rattle.std.specs.List.{slice_get, range_with_len, count_by}
use Rattle.std.proofs.lemmas.Bool.{or_cases, or_left, or_right, false_from_ne_true, eqb-true, eq-eqb}
use Rattle.std.proofs.lemmas.List.Sums.{sum_by-append}
use Rattle.std.proofs.lemmas.Option.{slice_get_within}
use Rattle.circuit_model.proofs.Renaming.{passes-elim, passes-intro}
use Rattle.circuit_model.proofs.Settled.{same_set}
use Rattle.environment_sets.specs.Lists.{IsIn, AreDistinct}
use Rattle.environment_sets.specs.Orders.{by_first, compare_in, first_of_both}
use Rattle.environment_sets.specs.Sets.{Set, ◌⊆◌, Hits, HitsEach, IsMinimalHittingSet}
use Rattle.environment_sets.proofs.Counting.{count_by-cons}
use Rattle.environment_sets.proofs.Membership.{IsIn-slice_get, slice_get-IsIn, IsRising-left, IsIn-map, map-IsIn, one_place, not_in_both, at_place}
use Rattle.standing_view.specs.Standing.{Stands, IsStanding, parts_of, order_of}
use Rattle.standing_view.specs.Positions.{positions, positions_in_order, AreSlotsAt, PositionsAreInRange, PositionsHaveSlots, PositionsKeepSubsets, PositionsKeepTheOrder, AreInParts, HittingSetsAreSlots, PositionsKeepHittingSets}
use Rattle.standing_view.proofs.Orders.{same_comparison}
use Rattle.standing_view.proofs.Places.{among_listed, listed_among}

-- the position of a slot, and the slot of a position
pub position_of : (st : Stands) (k : ℕ) → IsTrue (parts_of st k) → (i : ℕ) × (slice_get st.parts i ≡ Some k)
position_of st k h = slice_get-IsIn st.parts k (among_listed st.parts k h)

pub at_position : (st : Stands) (E : Set ℕ) (i k : ℕ) → slice_get st.parts i ≡ Some k → IsTrue (E k) → IsTrue (positions st E i)
at_position st E i k e h = passes-intro E (slice_get st.parts i) k e h

pub from_position : (st : Stands) (E : Set ℕ) (i k : ℕ) → slice_get st.parts i ≡ Some k → IsTrue (positions st E i) → IsTrue (E k)
from_position st E i k e h = rw e at h

pub positions_are_in_range : PositionsAreInRange
positions_are_in_range st E i h = let k : (k : ℕ) × (slice_get st.parts i ≡ Some k) × IsTrue (E k) = passes-elim E (slice_get st.parts i) h in slice_get_within st.parts i k.0 k.1

pub positions_up : (st : Stands) (E F : Set ℕ) → E ⊆ F → positions st E ⊆ positions st F
positions_up st E F within i h = let k : (k : ℕ) × (slice_get st.parts i ≡ Some k) × IsTrue (E k) = passes-elim E (slice_get st.parts i) h in at_position st F i k.0 k.1 (within k.0 k.2)

pub positions_down : (st : Stands) (E F : Set ℕ) → E ⊆ parts_of st → positions st E ⊆ positions st F → E ⊆ F
positions_down st E F inside within k h =
    let i : (i : ℕ) × (slice_get st.parts i ≡ Some k) = position_of st k (inside k h) in
    from_position st F i.0 k i.1 (within i.0 (at_position st E i.0 k i.1 h))

pub positions_keep_subsets : PositionsKeepSubsets
positions_keep_subsets st E F inside = (positions_up st E F, positions_down st E F inside)

-- sets of component slots with the same positions are equal
pub positions_one : (st : Stands) (E F : Set ℕ) → E ⊆ parts_of st → F ⊆ parts_of st → positions st E ≡ positions st F → E ≡ F
positions_one st E F inside within same =
    same_set E F (positions_down st E F inside (subst (λ (C : Set ℕ). positions st E ⊆ C) same (λ k h. h))) (positions_down st F E within (subst (λ (C : Set ℕ). C ⊆ positions st E) same (λ k h. h)))

-- ---- the slots of positions

slots_at : List ℕ → Set ℕ → Set ℕ
slots_at [] C k = false
slots_at (x ∷ xs) C k = (C 0 && (k == x)) || slots_at xs (λ i. C (suc i)) k

and_both : (a b : Bool) → IsTrue (a && b) → IsTrue a × IsTrue b
and_both true b h = (refl, h)
and_both false b h = absurd (true≢false (sym h))

both_and : (a b : Bool) → IsTrue a → IsTrue b → IsTrue (a && b)
both_and a b h k = rw h k

slots_have : (xs : List ℕ) (C : Set ℕ) (k : ℕ) → IsTrue (slots_at xs C k) → (i : ℕ) × (slice_get xs i ≡ Some k) × IsTrue (C i)
unfolding slots_at
slots_have [] C k h = absurd (true≢false (sym h))
slots_have (x ∷ xs) C k h = elim (or_cases (C 0 && (k == x)) (slots_at xs (λ i. C (suc i)) k) h) [
  | inl here ↦ let r : IsTrue (C 0) × IsTrue (k == x) = and_both (C 0) (k == x) here in (0, ap Some (sym (eqb-true k x r.1)), r.0)
  | inr later ↦ let r : (i : ℕ) × (slice_get xs i ≡ Some k) × IsTrue (C (suc i)) = slots_have xs (λ i. C (suc i)) k later in (suc r.0, r.1, r.2)
]

have_slots : (xs : List ℕ) (C : Set ℕ) (i k : ℕ) → slice_get xs i ≡ Some k → IsTrue (C i) → IsTrue (slots_at xs C k)
unfolding slots_at
have_slots [] C i k e h = cc
have_slots (x ∷ xs) C zero k e h = let same : x ≡ k = cc in or_left (C 0 && (k == x)) (slots_at xs (λ i. C (suc i)) k) (both_and (C 0) (k == x) h (subst (λ (y : ℕ). IsTrue (k == y)) (sym same) (eq-eqb k k refl)))
have_slots (x ∷ xs) C (suc i) k e h = or_right (C 0 && (k == x)) (slots_at xs (λ i. C (suc i)) k) (have_slots xs (λ j. C (suc j)) i k e h)

parts_distinct : (st : Stands) → IsStanding st → AreDistinct st.parts
parts_distinct st is = IsRising-left (λ x y. x ≡ y → ⊥) st.parts st.slots is.order.distinct

pub positions_have_slots : PositionsHaveSlots
positions_have_slots st is C low = (
  slots_at st.parts C,
  record {
    inside = inside;
    are = are;
    only = λ F within same. positions_one st F (slots_at st.parts C) within inside (same ∙ sym are);
  },
)
  where
    inside : slots_at st.parts C ⊆ parts_of st
    inside k h = let i : (i : ℕ) × (slice_get st.parts i ≡ Some k) × IsTrue (C i) = slots_have st.parts C k h in listed_among st.parts k (IsIn-slice_get st.parts i.0 k i.1)

    are : positions st (slots_at st.parts C) ≡ C
    are = same_set (positions st (slots_at st.parts C)) C
        (λ i h.
        let k : (k : ℕ) × (slice_get st.parts i ≡ Some k) × IsTrue (slots_at st.parts C k) = passes-elim (slots_at st.parts C) (slice_get st.parts i) h in
        let j : (j : ℕ) × (slice_get st.parts j ≡ Some k.0) × IsTrue (C j) = slots_have st.parts C k.0 k.2 in
        subst (λ (n : ℕ). IsTrue (C n)) (one_place st.parts j.0 i k.0 (parts_distinct st is) j.1 k.1) j.2)
        (λ i h.
        let k : (k : ℕ) × (slice_get st.parts i ≡ Some k) = at_place st.parts i (low i h) in
        at_position st (slots_at st.parts C) i k.0 k.1 (have_slots st.parts C i k.0 k.1 h))

-- ---- the order

module _ (E F : Set ℕ) where
  first_nowhere : (ys : List ℕ) → ((k : ℕ) → IsIn ys k → E k ≡ false) → ((k : ℕ) → IsIn ys k → F k ≡ false) → by_first ys E F ≡ Equal
  first_nowhere [] out off = refl
  first_nowhere (y ∷ ys) out off =
      let e : E y ≡ false = out y (inl refl) in
      let f : F y ≡ false = off y (inl refl) in
      let rest : by_first ys E F ≡ Equal = first_nowhere ys (λ k h. out k (inr h)) (λ k h. off k (inr h)) in
      rw (e, f) rest

  first_in_front : (xs ys : List ℕ) → by_first ys E F ≡ Equal → by_first (xs ++ ys) E F ≡ by_first xs E F
  first_in_front [] ys none = none
  first_in_front (x ∷ xs) ys none = ap (λ (o : Ordering). cond (E x && not (F x)) Less (cond (F x && not (E x)) Greater o)) (first_in_front xs ys none)

none_counted : (E : Set ℕ) (ys : List ℕ) → ((k : ℕ) → IsIn ys k → E k ≡ false) → count_by E ys ≡ 0
none_counted E [] out = refl
none_counted E (y ∷ ys) out =
    let e : E y ≡ false = out y (inl refl) in
    let rest : count_by E ys ≡ 0 = none_counted E ys (λ k h. out k (inr h)) in
    count_by-cons E y ys ∙ (rw (e, rest) refl)

counted_in_front : (E : Set ℕ) (xs ys : List ℕ) → ((k : ℕ) → IsIn ys k → E k ≡ false) → count_by E (xs ++ ys) ≡ count_by E xs
counted_in_front E xs ys out =
    let both : count_by E (xs ++ ys) ≡ count_by E xs + count_by E ys = sum_by-append (λ k. cond (E k) 1 0) xs ys in
    let none : count_by E ys ≡ 0 = none_counted E ys out in
    omega arith

-- what each position has
by_position : (E : Set ℕ) (C : Set ℕ) (xs : List ℕ) (i : ℕ) → ((j k : ℕ) → slice_get xs j ≡ Some k → C (i + j) ≡ E k) → map E xs ≡ map C (range_with_len i (length xs))
by_position E C [] i same = refl
by_position E C (x ∷ xs) i same =
    let n : i + 0 ≡ i = omega arith in
    let head : E x ≡ C i = sym (ap C (sym n) ∙ same 0 x refl) in
    let tail : map E xs ≡ map C (range_with_len (i + 1) (length xs)) = by_position E C xs (i + 1) (λ j y e. let m : (i + 1) + j ≡ i + suc j = omega arith in ap C m ∙ same (suc j) y e) in
    ap₂ (λ (b : Bool) (bs : List Bool). b ∷ bs) head tail

module _ (st : Stands) (is : IsStanding st) where
  pub no_measurement : (E : Set ℕ) → E ⊆ parts_of st → (k : ℕ) → IsIn st.slots k → E k ≡ false
  no_measurement E inside k h = false_from_ne_true (E k) (λ is_in. not_in_both st.parts st.slots is.order.distinct k (among_listed st.parts k (inside k is_in)) h)

  same_at_positions : (E : Set ℕ) → map E st.parts ≡ map (positions st E) (positions_in_order st)
  same_at_positions E = by_position E (positions st E) st.parts 0 (λ j k e. ap (λ (n : ℕ). positions st E n) (zero-add j) ∙ (rw e refl))

  pub same_order : (E F : Set ℕ) → E ⊆ parts_of st → F ⊆ parts_of st → compare_in (order_of st) E F ≡ compare_in (positions_in_order st) (positions st E) (positions st F)
  same_order E F inside within =
      let out = no_measurement E inside in
      let off = no_measurement F within in
      let first : by_first (order_of st) E F ≡ by_first st.parts E F = first_in_front E F st.parts st.slots (first_nowhere E F st.slots out off) in
      let sizes : nat_cmp (count_by E (order_of st)) (count_by F (order_of st)) ≡ nat_cmp (count_by E st.parts) (count_by F st.parts) = ap₂ nat_cmp (counted_in_front E st.parts st.slots out) (counted_in_front F st.parts st.slots off) in
      ap₂ first_of_both sizes first ∙ same_comparison E F (positions st E) (positions st F) st.parts (positions_in_order st) (same_at_positions E) (same_at_positions F)

pub positions_keep_the_order : PositionsKeepTheOrder
positions_keep_the_order st is E F inside within =
    let same : compare_in (order_of st) E F ≡ compare_in (positions_in_order st) (positions st E) (positions st F) = same_order st is E F inside within in
    (λ (e : compare_in (order_of st) E F ≡ Less). sym same ∙ e, λ (e : compare_in (positions_in_order st) (positions st E) (positions st F) ≡ Less). same ∙ e)

-- ---- hitting sets

-- a set that hits each of some sets inside L does so by its elements in L, so a minimal one is inside L
pub hitting_inside : (L : Set ℕ) (Cs : List (Set ℕ)) → ((C : Set ℕ) → IsIn Cs C → C ⊆ L) → (D : Set ℕ) → IsMinimalHittingSet (IsIn Cs) D → D ⊆ L
hitting_inside L Cs inside D h k is =
    let F : Set ℕ = λ j. D j && L j in
    (and_both (D k) (L k) (h.least F (λ j e. (and_both (D j) (L j) e).0) (λ C at. let m : Hits D C = h.holds C at in (m.0, both_and (D m.0) (L m.0) m.1 (inside C at m.0 m.2), m.2)) k is)).1

pub hitting_sets_are_slots : HittingSetsAreSlots
hitting_sets_are_slots st Cs inside D h = hitting_inside (parts_of st) Cs inside D h

module _ (st : Stands) (is : IsStanding st) (Cs : List (Set ℕ)) (inside : AreInParts st Cs) where
  hits_to : (D : Set ℕ) → HitsEach (IsIn Cs) D → HitsEach (IsIn (map (positions st) Cs)) (positions st D)
  hits_to D hits B at =
      let C : (C : Set ℕ) × IsIn Cs C × (positions st C ≡ B) = IsIn-map (positions st) Cs B at in
      let m : Hits D C.0 = hits C.0 C.1 in
      let i : (i : ℕ) × (slice_get st.parts i ≡ Some m.0) = position_of st m.0 (inside C.0 C.1 m.0 m.2) in
      (i.0, at_position st D i.0 m.0 i.1 m.1, subst (λ (A : Set ℕ). IsTrue (A i.0)) C.2 (at_position st C.0 i.0 m.0 i.1 m.2))

  hits_from : (D : Set ℕ) → HitsEach (IsIn (map (positions st) Cs)) (positions st D) → HitsEach (IsIn Cs) D
  hits_from D hits C at =
      let m : Hits (positions st D) (positions st C) = hits (positions st C) (map-IsIn (positions st) Cs C at) in
      let k : (k : ℕ) × (slice_get st.parts m.0 ≡ Some k) × IsTrue (D k) = passes-elim D (slice_get st.parts m.0) m.1 in
      (k.0, k.2, from_position st C m.0 k.0 k.1 m.2)

  pub hitting_to : (D : Set ℕ) → D ⊆ parts_of st → IsMinimalHittingSet (IsIn Cs) D → IsMinimalHittingSet (IsIn (map (positions st) Cs)) (positions st D)
  hitting_to D within h = record {
    holds = hits_to D h.holds;
    least = λ B below hits.
        let F : (F : Set ℕ) × AreSlotsAt st B F = positions_have_slots st is B (λ i at. positions_are_in_range st D i (below i at)) in
        let under : F.0 ⊆ D = positions_down st F.0 D F.1.inside (subst (λ (A : Set ℕ). A ⊆ positions st D) (sym F.1.are) below) in
        let more : D ⊆ F.0 = h.least F.0 under (hits_from F.0 (subst (λ (A : Set ℕ). HitsEach (IsIn (map (positions st) Cs)) A) (sym F.1.are) hits)) in
        subst (λ (A : Set ℕ). positions st D ⊆ A) F.1.are (positions_up st D F.0 more);
  }

  pub hitting_from : (D : Set ℕ) → D ⊆ parts_of st → IsMinimalHittingSet (IsIn (map (positions st) Cs)) (positions st D) → IsMinimalHittingSet (IsIn Cs) D
  hitting_from D within h = record {
    holds = hits_from D h.holds;
    least = λ F under hits. positions_down st D F within (h.least (positions st F) (positions_up st F D under) (hits_to F hits));
  }

pub positions_keep_hitting_sets : PositionsKeepHittingSets
positions_keep_hitting_sets st is Cs inside D within = (hitting_to st is Cs inside D within, hitting_from st is Cs inside D within)
