-- The first nogood of a conflict.
use Rattle.std.proofs.Common.{◌≡◌, ℕ, ◌⊎◌, inl, inr, IsTrue, List, Option, Some, None, IsSome, refl, sym, ap, subst, ◌∙◌}
use Rattle.std.specs.List.{slice_get}
use Rattle.std.specs.Option.{option_map}
use Rattle.std.proofs.lemmas.Bool.{or_cases, or_left, or_right}
use Rattle.circuit_model.specs.declared.model.Fact.{Fact}
use Rattle.circuit_model.specs.Diagnoses.{Place, AtPart, AtCell, with_readings, IsConflict}
use Rattle.circuit_model.specs.Present.{PresentView, circuit_of}
use Rattle.circuit_model.specs.Stock.{Stock, IsRefutedBy, IsNogood, within}
use Rattle.circuit_model.specs.Whole.{stock, order_of_present}
use Rattle.circuit_model.proofs.Monotony.{IsRefutedBy-more}
use Rattle.circuit_model.proofs.Reiter.{not_without_least}
use Rattle.circuit_model.proofs.Renaming.{passes-elim}
use Rattle.circuit_model.proofs.Settled.{same_set}
use Rattle.environment_sets.specs.declared.environment.TheConstants.{SLOTS}
use Rattle.environment_sets.specs.Orders.{ComesBefore}
use Rattle.environment_sets.specs.Sets.{Set, ◌⊆◌}
use Rattle.environment_sets.specs.Walks.{IsFurther, GivesNext}
use Rattle.environment_sets.proofs.Membership.{IsIn-slice_get}
use Rattle.label_engine.proofs.Masks.{nogood_within}
use Rattle.standing_view.specs.Standing.{Stands, parts_of, readings_of, mask_of, order_of}
use Rattle.standing_view.specs.View.{StandsFor, places}
use Rattle.standing_view.specs.Positions.{positions}
use Rattle.standing_view.specs.Conflicts.{IsFirstNogood, components_of}
use Rattle.standing_view.specs.Laws.{IsTheSetOf}
use Rattle.standing_view.proofs.Conflicting.{with_slots, with_slots_inside, part_or_reading, standing_of, measured_reading, refuted_from, below}
use Rattle.standing_view.proofs.Named.{slots_have_its_nogoods, environments_are_slots, inside_environment}
use Rattle.standing_view.proofs.Orders.{the_order_is_the_presents}
use Rattle.standing_view.proofs.PartSets.{at_position, from_position, position_of}
use Rattle.standing_view.proofs.Places.{listed_among}

-- the answer is the first nogood of the set's slots and those of the measurements
abbrev pub GivesFirst : Stock ℕ → Stands → Set ℕ → Option (Set ℕ) → Type 0
GivesFirst S st E next = GivesNext (order_of st) (IsNogood (within (with_slots st E) S)) (with_slots st E) None next

-- by the mask and the order that were asked with
pub gives_first :
    (S : Stock ℕ) (st : Stands) (E M : Set ℕ) (order : List ℕ) (next : Option (Set ℕ)) → M ≡ with_slots st E → order ≡ order_of st → GivesNext order (IsNogood (within M S)) M None next
    → GivesFirst S st E next
gives_first S st E M order next same same_order gives =
    let P : List ℕ → Type 0 = λ xs. GivesNext xs (IsNogood (within M S)) M None next in
    let Q : Set ℕ → Type 0 = λ X. GivesNext (order_of st) (IsNogood (within X S)) X None next in
    subst Q same (subst P same_order gives)

pub some_of_mapped : {A B : Type 0} (f : A → B) (o : Option A) → IsSome (option_map f o) → IsSome o
some_of_mapped f None h = h
some_of_mapped f (Some x) h = refl

module _ (S : Stock ℕ) (st : Stands) (P : PresentView) (parked : List Fact) (r : StandsFor S st P parked) (E : Set ℕ) (inside : E ⊆ parts_of st) (conflict : IsConflict (circuit_of P) (positions st E)) where
  abbrev X : Set ℕ
  X = with_slots st E

  -- some nogood has no more than the conflict and the measurements
  pub some_nogood : (next : Option (Set ℕ)) → GivesNext (order_of st) (IsNogood (within X S)) X None next → IsSome next
  some_nogood (Some N) gives = refl
  some_nogood None none =
      let R : Stock ℕ = within (mask_of st) S in
      let clash : IsRefutedBy R X = refuted_from S st P parked r E inside conflict.minimal.holds in
      absurd (not_without_least (IsRefutedBy R) (IsRefutedBy-more R) SLOTS X (λ k h. below S st P parked r k (inside_environment S st P parked r X (with_slots_inside st E inside) k h)) clash (λ N under minimal.
      let there : IsNogood R N = record { environment = λ k h. inside_environment S st P parked r X (with_slots_inside st E inside) k (under k h); minimal = minimal } in
      none N (record { member = (nogood_within X S N).1 (((nogood_within (mask_of st) S N).0 there).0, under); inside = under; after = tt })))

  module _ (N : Set ℕ) (gives : GivesNext (order_of st) (IsNogood (within X S)) X None (Some N)) where
    under : N ⊆ X
    under = gives.further.inside

    pub nogood_inside : N ⊆ mask_of st
    nogood_inside k h = with_slots_inside st E inside k (under k h)

    nogood : IsNogood (stock P) (places st N)
    nogood =
        (slots_have_its_nogoods S st P parked r N nogood_inside).0
        ((nogood_within (mask_of st) S N).1 (((nogood_within X S N).0 gives.further.member).0, nogood_inside))

    -- its component slots are among those of the conflict
    components_up : components_of (places st N) ⊆ positions st E
    components_up i h =
        let k : (k : ℕ) × (slice_get st.parts i ≡ Some k) × IsTrue (N k) = passes-elim N (slice_get st.parts i) h in
        elim (or_cases (E k.0) (readings_of st k.0) (under k.0 k.2)) as (λ _. IsTrue (positions st E i)) [
          | inl part ↦ at_position st E i k.0 k.1 part
          | inr reading ↦ absurd (standing_of S st P parked r k.0 (listed_among st.parts k.0 (IsIn-slice_get st.parts i k.0 k.1)) reading)
        ]

    -- with all measurements they clash
    all_readings : places st N ⊆ with_readings (circuit_of P) (components_of (places st N))
    all_readings (AtPart i) h = h
    all_readings (AtCell c) h = measured_reading P c (nogood.environment (AtCell c) h)

    components : components_of (places st N) ≡ positions st E
    components =
        same_set (components_of (places st N)) (positions st E) components_up
        (conflict.minimal.least (components_of (places st N)) components_up (IsRefutedBy-more (stock P) (places st N) (with_readings (circuit_of P) (components_of (places st N))) all_readings nogood.minimal.holds))

    first : (F : Set Place) → IsNogood (stock P) F → components_of F ≡ positions st E → (places st N ≡ F) ⊎ ComesBefore (order_of_present P) (places st N) F
    first F is same =
        let G : (G : Set ℕ) × IsTheSetOf st F G = environments_are_slots S st P parked r F is.environment in
        let in_X : G.0 ⊆ X = λ k h. elim (part_or_reading st k (G.1.inside k h)) as (λ _. IsTrue (X k)) [
          | inl part ↦
              let i : (i : ℕ) × (slice_get st.parts i ≡ Some k) = position_of st k part in
              let at : IsTrue (F (AtPart i.0)) = subst (λ (H : Set Place). IsTrue (H (AtPart i.0))) G.1.is (at_position st G.0 i.0 k i.1 h) in
              or_left (E k) (readings_of st k) (from_position st E i.0 k i.1 (subst (λ (C : Set ℕ). IsTrue (C i.0)) same at))
          | inr reading ↦ or_right (E k) (readings_of st k) reading
        ] in
        let there : IsNogood (within (mask_of st) S) G.0 = (slots_have_its_nogoods S st P parked r G.0 G.1.inside).1 (subst (IsNogood (stock P)) (sym G.1.is) is) in
        let further : IsFurther (order_of st) (IsNogood (within X S)) X None G.0 = record { member = (nogood_within X S G.0).1 (((nogood_within (mask_of st) S G.0).0 there).0, in_X); inside = in_X; after = tt } in
        elim (gives.first G.0 further) as (λ _. (places st N ≡ F) ⊎ ComesBefore (order_of_present P) (places st N) F) [
          | inl one ↦ inl (ap (places st) one ∙ G.1.is)
          | inr before ↦ inr (subst (λ (H : Set Place). ComesBefore (order_of_present P) (places st N) H) G.1.is ((the_order_is_the_presents S st P parked r N G.0).0 before))
        ]

    pub first_nogood : IsFirstNogood P (positions st E) (places st N)
    first_nogood = record { nogood = nogood; components = components; first = first }
