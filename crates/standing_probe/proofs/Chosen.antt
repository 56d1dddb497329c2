-- Slots of positions, gathered one after another.
use Rattle.std.proofs.Common.{◌≡◌, ℕ, ◌+◌, ◌<◌, ◌≤◌, ◌⊎◌, inl, inr, Bool, true, false, cond, IsTrue, List, [], ◌∷◌, ◌++◌, length, map, take, get_or, Some, sym, ap, ap₂, subst, ◌∙◌, arith}
use Rattle.std.specs.List.{slice_get}
use Rattle.std.proofs.lemmas.Bool.{or_cases, or_left, or_right, false≢true}
use Rattle.std.proofs.lemmas.Bool.Decides.{nat_tests}
use Rattle.std.proofs.lemmas.List.{map-append, take_more}
use Rattle.std.proofs.lemmas.Option.{slice_get_within, slice_get-get_or}
use Rattle.circuit_model.proofs.Settled.{same_set}
use Rattle.environment_sets.specs.declared.environment.Env.{Env}
use Rattle.environment_sets.specs.Lists.{IsIn}
use Rattle.environment_sets.specs.Members.{members, sets}
use Rattle.environment_sets.specs.Orders.{IsOrder}
use Rattle.environment_sets.specs.Sets.{Set, ◌⊆◌, no_elements, only, ◌∪◌, IsBelow}
use Rattle.environment_sets.proofs.Membership.{IsIn-append, IsIn-left, IsIn-slice_get, map-IsIn}
use Rattle.environment_sets.proofs.Ranges.{last_or_before, is_only, only_is}
use Rattle.standing_view.specs.Standing.{Stands, IsStanding, order_of, parts_of}
use Rattle.standing_view.specs.Positions.{positions, AreInParts, AreSlotsAt}
use Rattle.standing_probe.specs.Ranges.{AreInRange}
use Rattle.standing_view.proofs.PartSets.{positions_have_slots, position_of, at_position, from_position}

-- the slots of the chosen positions that are below the place
pub record AreChosenBelow (st : Stands) (C : Set ℕ) (n : ℕ) (E : Set ℕ) : Type 0 where
  pub sound : (k : ℕ) → IsTrue (E k) → (i : ℕ) × (slice_get st.parts i ≡ Some k) × IsTrue (C i)
  pub all : (i k : ℕ) → i < n → slice_get st.parts i ≡ Some k → IsTrue (C i) → IsTrue (E k)

pub none_chosen : (st : Stands) (C E : Set ℕ) → E ≡ no_elements → AreChosenBelow st C 0 E
none_chosen st C E is = record { sound = λ k h. absurd (false≢true (subst (λ (F : Set ℕ). IsTrue (F k)) is h)); all = λ i k low at h. absurd (omega arith) }

same_some : (j k : ℕ) → Some j ≡ Some k → j ≡ k
same_some j k e = cc

module _ (st : Stands) (C : Set ℕ) (n slot : ℕ) (at : slice_get st.parts n ≡ Some slot) (E F : Set ℕ) (was : AreChosenBelow st C n E) where
  pub more_chosen : (chosen : Bool) → F ≡ cond chosen (E ∪ only slot) E → chosen ≡ C n → AreChosenBelow st C (n + 1) F
  more_chosen true is same = record {
    sound = λ k h. elim (or_cases (E k) (only slot k) (subst (λ (G : Set ℕ). IsTrue (G k)) is h)) [
      | inl there ↦ was.sound k there
      | inr this ↦ (n, at ∙ ap Some (sym (only_is k slot this)), sym same)
    ];
    all = λ i k low there h. subst (λ (G : Set ℕ). IsTrue (G k)) (sym is) (elim (last_or_before i n low) as (λ _. IsTrue ((E ∪ only slot) k)) [
      | inl this ↦ or_right (E k) (only slot k) (is_only k slot (same_some k slot (sym there ∙ (ap (slice_get st.parts) this ∙ at))))
      | inr before ↦ or_left (E k) (only slot k) (was.all i k before there h)
    ]);
  }
  more_chosen false is same = record {
    sound = λ k h. was.sound k (subst (λ (G : Set ℕ). IsTrue (G k)) is h);
    all = λ i k low there h. subst (λ (G : Set ℕ). IsTrue (G k)) (sym is) (elim (last_or_before i n low) as (λ _. IsTrue (E k)) [
      | inl this ↦ absurd (false≢true (same ∙ subst (λ (j : ℕ). IsTrue (C j)) this h))
      | inr before ↦ was.all i k before there h
    ]);
  }

-- once all positions are passed, these are the slots at them
pub all_chosen : (st : Stands) → IsStanding st → (C : Set ℕ) → IsBelow (length st.parts) C → (n : ℕ) → length st.parts ≤ n → (F : Set ℕ) → AreChosenBelow st C n F → AreSlotsAt st C F
all_chosen st is C low n high F are =
    let r : (E : Set ℕ) × AreSlotsAt st C E = positions_have_slots st is C low in
    let chosen : (i : ℕ) → IsTrue (C i) → IsTrue (positions st r.0 i) = λ i h. subst (λ (D : Set ℕ). IsTrue (D i)) (sym r.1.are) h in
    let within : r.0 ⊆ F = λ k h.
    let i : (i : ℕ) × (slice_get st.parts i ≡ Some k) = position_of st k (r.1.inside k h) in
    let bound : i.0 < length st.parts = slice_get_within st.parts i.0 k i.1 in
    are.all i.0 k (omega (arith, bound, high)) i.1 (subst (λ (D : Set ℕ). IsTrue (D i.0)) r.1.are (at_position st r.0 i.0 k i.1 h)) in
    let back : F ⊆ r.0 = λ k h.
    let i : (i : ℕ) × (slice_get st.parts i ≡ Some k) × IsTrue (C i) = are.sound k h in
    from_position st r.0 i.0 k i.1 (chosen i.0 i.2) in
    subst (AreSlotsAt st C) (same_set r.0 F within back) r.1

-- the slot of a component is below the bound of its order
pub slot_below : (n : ℕ) (st : Stands) → IsOrder n (order_of st) → (i k : ℕ) → slice_get st.parts i ≡ Some k → k < n
slot_below n st order i k at = order.below k (IsIn-left st.parts st.slots k (IsIn-slice_get st.parts i k at))

-- ---- set after set

-- the sets of slots at the first sets of positions
pub record AreSlotsOfEach (st : Stands) (found chosen : List Env) : Type 0 where
  pub positions : map (positions st) (sets found) ≡ sets chosen
  pub slots : AreInParts st (sets found)

pub one_more : (st : Stands) (found before now : List Env) (e f : Env) → AreSlotsOfEach st found before → AreSlotsAt st (members e) (members f) → now ≡ before ++ e ∷ [] → AreSlotsOfEach st (found ++ f ∷ []) now
one_more st found before now e f was at is =
    let here : sets (found ++ f ∷ []) ≡ sets found ++ members f ∷ [] = map-append members found (f ∷ []) in
    let there : sets now ≡ sets before ++ members e ∷ [] = ap (λ (es : List Env). sets es) is ∙ map-append members before (e ∷ []) in
    record {
      positions = ap (map (positions st)) here ∙ (map-append (positions st) (sets found) (members f ∷ []) ∙ (ap₂ (λ (xs : List (Set ℕ)) (x : Set ℕ). xs ++ x ∷ []) was.positions at.are ∙ sym there));
      slots = λ C h. elim (IsIn-append (sets found) (members f ∷ []) C (subst (λ (Es : List (Set ℕ)). IsIn Es C) here h)) [
        | inl old ↦ was.slots C old
        | inr (inl new) ↦ subst (λ (E : Set ℕ). E ⊆ parts_of st) new at.inside
        | inr (inr none) ↦ absurd none
      ];
    }

-- at the place in a list of sets of positions
pub one_more_at : (st : Stands) (found environments : List Env) (i : ℕ) (e f : Env) → e ≡ get_or environments i e → i < length environments → AreSlotsOfEach st found (take i environments) → AreSlotsAt st (members e) (members f) → (now : List Env) → now ≡ found ++ f ∷ [] → AreSlotsOfEach st now (take (i + 1) environments)
one_more_at st found environments i e f at low was slots now is =
    subst (λ (es : List Env). AreSlotsOfEach st es (take (i + 1) environments)) (sym is)
    (one_more st found (take i environments) (take (i + 1) environments) e f was slots (take_more environments i e low ∙ ap (λ y. take i environments ++ y ∷ []) (sym at)))

-- the set at a place is one of positions
pub in_range_at : (st : Stands) (environments : List Env) (i : ℕ) (e : Env) → AreInRange st (sets environments) → e ≡ get_or environments i e → i < length environments → IsBelow (length st.parts) (members e)
in_range_at st environments i e are at low = are (members e) (map-IsIn members environments e (IsIn-slice_get environments i e (slice_get-get_or environments i e low ∙ ap Some (sym at))))
