-- Conflicts of a present, and nogoods over the slots that stand for it.
use Rattle.std.proofs.Common.{◌≡◌, ℕ, ◌<◌, ◌⊎◌, inl, inr, IsTrue, List, [], ◌∷◌, ◌++◌, length, map, Option, Some, None, IsSome, is_some, refl, sym, subst, ◌∙◌}
use Rattle.std.specs.Option.{option_map}
use Rattle.std.specs.List.{slice_get, range_with_len}
use Rattle.std.proofs.lemmas.Bool.{or_cases, or_left, or_right, and_parts, and_from}
use Rattle.std.proofs.lemmas.List.{length-map}
use Rattle.circuit_model.specs.declared.model.Cell.{Cell}
use Rattle.circuit_model.specs.declared.model.Fact.{Fact}
use Rattle.circuit_model.specs.declared.present.Component.{Component}
use Rattle.circuit_model.specs.declared.model.Assumption.TheVariants.{Reading}
use Rattle.circuit_model.specs.Closure.{fact}
use Rattle.circuit_model.specs.Diagnoses.{Place, AtPart, AtCell, with_readings, AreRefuted, IsConflict}
use Rattle.circuit_model.specs.Present.{PresentView, is_cell, circuit_of, reading_in}
use Rattle.circuit_model.specs.Probe.{AreConflicts}
use Rattle.circuit_model.specs.Stock.{Stock, IsRefutedBy, IsNogood, within}
use Rattle.circuit_model.specs.Whole.{stock}
use Rattle.circuit_model.proofs.Decided.{listed_nogoods_decide}
use Rattle.circuit_model.proofs.Renaming.{passes-elim, passes-intro, renamed_clashes}
use Rattle.circuit_model.proofs.Settled.{same_set}
use Rattle.environment_sets.specs.declared.environment.Env.{Env}
use Rattle.environment_sets.specs.declared.environment.TheConstants.{SLOTS}
use Rattle.environment_sets.specs.Families.{IsCovered}
use Rattle.environment_sets.specs.Lists.{IsIn, IsRising, AreDistinct, IsListing, IsRoster}
use Rattle.environment_sets.specs.Members.{sets, HasMember}
use Rattle.environment_sets.specs.Orders.{ComesBefore, ListsAll}
use Rattle.environment_sets.specs.Sets.{Set, ◌⊆◌, ◌∪◌, ◌∩◌, IsBelow}
use Rattle.environment_sets.proofs.Membership.{IsIn-left, IsIn-right, IsIn-slice_get, IsIn-map, map-IsIn, not_in_both}
use Rattle.label_engine.proofs.Masks.{inside_of}
use Rattle.standing_view.specs.Standing.{Stands, IsStanding, parts_of, readings_of, mask_of, order_of}
use Rattle.standing_view.specs.View.{StandsFor, place_of, slot_of, places}
use Rattle.standing_view.specs.Positions.{positions, positions_in_order, AreSlotsAt}
use Rattle.standing_view.specs.Conflicts.{AreLeastOf, meets}
use Rattle.standing_view.proofs.Aligned.{StandBeside, finds}
use Rattle.standing_view.proofs.Masks.{mask_of_both}
use Rattle.standing_view.proofs.Named.{as_many_parts, inside_environment, places_environment, mask_places, names, within_inside}
use Rattle.standing_view.proofs.PartSets.{at_position, positions_up, positions_down, positions_are_in_range, positions_have_slots, positions_keep_the_order}
use Rattle.standing_view.proofs.Places.{among_listed, listed_among}

-- with the slots of the measurements
abbrev pub with_slots : Stands → Set ℕ → Set ℕ
with_slots st E = E ∪ readings_of st

pub with_slots_inside : (st : Stands) (E : Set ℕ) → E ⊆ parts_of st → with_slots st E ⊆ mask_of st
with_slots_inside st E inside k h = subst (λ (M : Set ℕ). IsTrue (M k)) (mask_of_both st) (elim (or_cases (E k) (readings_of st k) h) as (λ _. IsTrue ((parts_of st ∪ readings_of st) k)) [
  | inl part ↦ or_left (parts_of st k) (readings_of st k) (inside k part)
  | inr reading ↦ or_right (parts_of st k) (readings_of st k) reading
])

-- the order lists the component slots
pub parts_listed : (st : Stands) (order : List ℕ) (L : Set ℕ) → order ≡ order_of st → L ≡ parts_of st → ListsAll order L
parts_listed st order L same_order same_parts k h =
    let part : IsTrue (parts_of st k) = subst (λ (X : Set ℕ). IsTrue (X k)) same_parts h in
    subst (λ (xs : List ℕ). IsIn xs k) (sym same_order) (IsIn-left st.parts st.slots k (among_listed st.parts k part))

-- what is in the mask and not a component's slot is a measurement's
pub part_or_reading : (st : Stands) (k : ℕ) → IsTrue (mask_of st k) → IsTrue (parts_of st k) ⊎ IsTrue (readings_of st k)
part_or_reading st k h = or_cases (parts_of st k) (readings_of st k) (subst (λ (M : Set ℕ). IsTrue (M k)) (sym (mask_of_both st)) h)

in_second : {A B : Type 0} (xs : List A) (ys : List B) (a : A) (b : B) → StandBeside xs ys a b → IsIn ys b
in_second [] ys a b h = absurd h
in_second (x ∷ xs) [] a b h = absurd h
in_second (x ∷ xs) (y ∷ ys) a b (inl e) = inl e.1
in_second (x ∷ xs) (y ∷ ys) a b (inr h) = inr (in_second xs ys a b h)

some_mapped : {A B : Type 0} (f : A → B) (o : Option A) → IsSome (option_map f o) → IsTrue (is_some o)
some_mapped f None h = h
some_mapped f (Some x) h = refl

-- a cell that has an assumption is measured
pub measured_reading : (P : PresentView) (c : Cell) → IsSome (stock P (AtCell c)) → IsTrue (is_some (reading_in P.readings c))
measured_reading P c h = some_mapped (λ v. Reading (fact c v)) (reading_in P.readings c) h

mapped_some : {A B : Type 0} (f : A → B) (o : Option A) → IsTrue (is_some o) → IsSome (option_map f o)
mapped_some f None h = h
mapped_some f (Some x) h = refl

pub standing_of : (S : Stock ℕ) (st : Stands) (P : PresentView) (parked : List Fact) → StandsFor S st P parked → (k : ℕ) → IsTrue (parts_of st k) → IsTrue (readings_of st k) → ⊥
standing_of S st P parked r k part reading = not_in_both st.parts st.slots r.order.distinct k (among_listed st.parts k part) (among_listed st.slots k reading)

module _ (S : Stock ℕ) (st : Stands) (P : PresentView) (parked : List Fact) (r : StandsFor S st P parked) where
  abbrev R : Stock ℕ
  R = within (mask_of st) S

  -- a set of component slots, with those of the measurements, has the places of its positions with all measured cells
  slots_to : (E : Set ℕ) → E ⊆ parts_of st → places st (with_slots st E) ⊆ with_readings (circuit_of P) (positions st E)
  slots_to E inside (AtPart i) h =
      let k : (k : ℕ) × (slice_get st.parts i ≡ Some k) × IsTrue (with_slots st E k) = passes-elim (with_slots st E) (slice_get st.parts i) h in
      elim (or_cases (E k.0) (readings_of st k.0) k.2) as (λ _. IsTrue (positions st E i)) [
        | inl part ↦ at_position st E i k.0 k.1 part
        | inr reading ↦ absurd (standing_of S st P parked r k.0 (listed_among st.parts k.0 (IsIn-slice_get st.parts i k.0 k.1)) reading)
      ]
  slots_to E inside (AtCell c) h =
      measured_reading P c (places_environment S st P parked r (with_slots st E) (with_slots_inside st E inside) (AtCell c) h)

  slots_from : (E : Set ℕ) → E ⊆ parts_of st → with_readings (circuit_of P) (positions st E) ⊆ places st (with_slots st E)
  slots_from E inside (AtPart i) h =
      let k : (k : ℕ) × (slice_get st.parts i ≡ Some k) × IsTrue (E k) = passes-elim E (slice_get st.parts i) h in
      passes-intro (with_slots st E) (slice_get st.parts i) k.0 k.1 (or_left (E k.0) (readings_of st k.0) k.2)
  slots_from E inside (AtCell c) h =
      let all : IsTrue (places st (mask_of st) (AtCell c)) = subst (λ (F : Set Place). IsTrue (F (AtCell c))) (sym (mask_places S st P parked r)) (mapped_some (λ v. Reading (fact c v)) (reading_in P.readings c) h) in
      let k : (k : ℕ) × (slot_of st (AtCell c) ≡ Some k) × IsTrue (mask_of st k) = passes-elim (mask_of st) (slot_of st (AtCell c)) all in
      let d : (d : Cell) × StandBeside st.cells st.slots d k.0 × IsTrue (is_cell d c) = finds (λ d. is_cell d c) st.cells st.slots k.0 k.1 in
      passes-intro (with_slots st E) (slot_of st (AtCell c)) k.0 k.1 (or_right (E k.0) (readings_of st k.0) (listed_among st.slots k.0 (in_second st.cells st.slots d.0 k.0 d.1)))

  with_slots_are : (E : Set ℕ) → E ⊆ parts_of st → places st (with_slots st E) ≡ with_readings (circuit_of P) (positions st E)
  with_slots_are E inside = same_set (places st (with_slots st E)) (with_readings (circuit_of P) (positions st E)) (slots_to E inside) (slots_from E inside)

  pub refuted_to : (E : Set ℕ) → E ⊆ parts_of st → IsRefutedBy R (with_slots st E) → AreRefuted (circuit_of P) (positions st E)
  refuted_to E inside h =
      subst (λ (F : Set Place). IsRefutedBy (stock P) F) (with_slots_are E inside) ((renamed_clashes ℕ Place R (stock P) (place_of st) (slot_of st) (names S st P parked r) (with_slots st E)).0 h)

  pub refuted_from : (E : Set ℕ) → E ⊆ parts_of st → AreRefuted (circuit_of P) (positions st E) → IsRefutedBy R (with_slots st E)
  refuted_from E inside h =
      (renamed_clashes ℕ Place R (stock P) (place_of st) (slot_of st) (names S st P parked r) (with_slots st E)).1 (subst (λ (F : Set Place). IsRefutedBy (stock P) F) (sym (with_slots_are E inside)) h)

  pub below : (k : ℕ) → IsSome (R k) → k < SLOTS
  below k h = r.order.below k (among_listed (order_of st) k (within_inside S st P parked r k h))

  as_long : length st.parts ≡ length (circuit_of P).parts
  as_long = as_many_parts S st P parked r ∙ sym (length-map P.parts (λ (c : Component). c.part))

  -- from all nogoods over the slots
  module _ (Ns : List (Set ℕ)) (all : IsRoster (IsNogood R) Ns) where
    abbrev Ks : List (Set ℕ)
    Ks = meets (parts_of st) Ns

    parts_inside : (N E : Set ℕ) → N ⊆ with_slots st E → (N ∩ parts_of st) ⊆ E
    parts_inside N E within k h =
        let both : IsTrue (N k) × IsTrue (parts_of st k) = and_parts (N k) (parts_of st k) h in
        elim (or_cases (E k) (readings_of st k) (within k both.0)) as (λ _. IsTrue (E k)) [ inl part ↦ part | inr reading ↦ absurd (standing_of S st P parked r k both.1 reading) ]

    inside_parts : (N E : Set ℕ) → N ⊆ mask_of st → (N ∩ parts_of st) ⊆ E → N ⊆ with_slots st E
    inside_parts N E inside within k h =
        elim (part_or_reading st k (inside k h)) as (λ _. IsTrue (with_slots st E k)) [
          | inl part ↦ or_left (E k) (readings_of st k) (within k (and_from (N k) (parts_of st k) h part))
          | inr reading ↦ or_right (E k) (readings_of st k) reading
        ]

    pub refuted_covered : (E : Set ℕ) → E ⊆ parts_of st → AreRefuted (circuit_of P) (positions st E) → IsCovered (IsIn Ks) E
    refuted_covered E inside h =
        let F : Set ℕ = with_slots st E in
        let c : IsCovered (IsIn Ns) F = (listed_nogoods_decide SLOTS R below Ns all.exact F (inside_environment S st P parked r F (with_slots_inside st E inside))).0 (refuted_from E inside h) in
        (c.0 ∩ parts_of st, map-IsIn (λ (N : Set ℕ). N ∩ parts_of st) Ns c.0 c.1, parts_inside c.0 E c.2)

    pub covered_refuted : (E : Set ℕ) → E ⊆ parts_of st → IsCovered (IsIn Ks) E → AreRefuted (circuit_of P) (positions st E)
    covered_refuted E inside c =
        let F : Set ℕ = with_slots st E in
        let N : (N : Set ℕ) × IsIn Ns N × ((N ∩ parts_of st) ≡ c.0) = IsIn-map (λ (N : Set ℕ). N ∩ parts_of st) Ns c.0 c.1 in
        let nogood : IsNogood R N.0 = (all.exact N.0).0 N.1 in
        let under : N.0 ⊆ F = inside_parts N.0 E (inside_of (mask_of st) S N.0 nogood.environment) (subst (λ (K : Set ℕ). K ⊆ E) (sym N.2) c.2) in
        refuted_to E inside ((listed_nogoods_decide SLOTS R below Ns all.exact F (inside_environment S st P parked r F (with_slots_inside st E inside))).1 (N.0, N.1, under))

    module _ (es : List Env) (least : AreLeastOf Ks es) where
      pub least_inside : (E : Set ℕ) → HasMember es E → E ⊆ parts_of st
      least_inside E h k is =
          let N : (N : Set ℕ) × IsIn Ns N × ((N ∩ parts_of st) ≡ E) = IsIn-map (λ (N : Set ℕ). N ∩ parts_of st) Ns E (least.sound E h) in
          (and_parts (N.0 k) (parts_of st k) (subst (λ (K : Set ℕ). IsTrue (K k)) (sym N.2) is)).1

      least_covers : (E : Set ℕ) → IsCovered (IsIn Ks) E → IsCovered (HasMember es) E
      least_covers E c = let m : IsCovered (HasMember es) c.0 = least.covers c.0 c.1 in (m.0, m.1, λ k h. c.2 k (m.2 k h))

      is : IsStanding st → (E : Set ℕ) → HasMember es E → IsConflict (circuit_of P) (positions st E)
      is standing E h =
          let inside : E ⊆ parts_of st = least_inside E h in
          record {
            positions = subst (λ (n : ℕ). IsBelow n (positions st E)) as_long (positions_are_in_range st E);
            minimal = record {
              holds = covered_refuted E inside (E, least.sound E h, λ k is_in. is_in);
              least = λ C under refuted.
                  let F : (F : Set ℕ) × AreSlotsAt st C F = positions_have_slots st standing C (λ i at. positions_are_in_range st E i (under i at)) in
                  let clash : AreRefuted (circuit_of P) (positions st F.0) = subst (λ (B : Set ℕ). AreRefuted (circuit_of P) B) (sym F.1.are) refuted in
                  let m : IsCovered (HasMember es) F.0 = least_covers F.0 (refuted_covered F.0 F.1.inside clash) in
                  let below_E : F.0 ⊆ E = positions_down st F.0 E F.1.inside (subst (λ (B : Set ℕ). B ⊆ positions st E) (sym F.1.are) under) in
                  let above : E ⊆ m.0 = least.antichain m.0 E m.1 h (λ k is_in. below_E k (m.2 k is_in)) in
                  subst (λ (B : Set ℕ). positions st E ⊆ B) F.1.are (positions_up st E F.0 (λ k is_in. m.2 k (above k is_in)));
            };
          }

      has : (E : Set ℕ) → E ⊆ parts_of st → IsConflict (circuit_of P) (positions st E) → HasMember es E
      has E inside h =
          let m : IsCovered (HasMember es) E = least_covers E (refuted_covered E inside h.minimal.holds) in
          let refuted : AreRefuted (circuit_of P) (positions st m.0) = covered_refuted m.0 (least_inside m.0 m.1) (m.0, least.sound m.0 m.1, λ k is_in. is_in) in
          let up : E ⊆ m.0 = positions_down st E m.0 inside (h.minimal.least (positions st m.0) (positions_up st m.0 E m.2) refuted) in
          subst (HasMember es) (same_set m.0 E m.2 up) m.1

      -- the minimal ones of the component parts, in order, are the conflicts in order
      pub conflicts_listed : IsStanding st → (ys : List Env) → IsListing (ComesBefore (order_of st)) (λ E. HasMember es E × (E ⊆ parts_of st)) (sets ys) → AreConflicts (circuit_of P) (map (positions st) (sets ys))
      conflicts_listed standing ys listing = record {
        rising = subst (λ (n : ℕ). IsRising (ComesBefore (range_with_len 0 n)) (map (positions st) (sets ys))) as_long (rising_at (sets ys) (λ E h. least_inside E ((listing.exact E).0 h).0) listing.rising);
        exact = λ C. (
          λ h. let E : (E : Set ℕ) × IsIn (sets ys) E × (positions st E ≡ C) = IsIn-map (positions st) (sets ys) C h in
              subst (IsConflict (circuit_of P)) E.2 (is standing E.0 ((listing.exact E.0).0 E.1).0),
          λ h. let E : (E : Set ℕ) × AreSlotsAt st C E = positions_have_slots st standing C (subst (λ (n : ℕ). IsBelow n C) (sym as_long) h.positions) in
              let at : HasMember es E.0 = has E.0 E.1.inside (subst (IsConflict (circuit_of P)) (sym E.1.are) h) in
              subst (IsIn (map (positions st) (sets ys))) E.1.are (map-IsIn (positions st) (sets ys) E.0 ((listing.exact E.0).1 (at, E.1.inside))),
        );
      }
        where
          rising_at : (Es : List (Set ℕ)) → ((E : Set ℕ) → IsIn Es E → E ⊆ parts_of st) → IsRising (ComesBefore (order_of st)) Es → IsRising (ComesBefore (positions_in_order st)) (map (positions st) Es)
          rising_at [] inside up = tt
          rising_at (E ∷ Es) inside up = (
            λ C h. let F : (F : Set ℕ) × IsIn Es F × (positions st F ≡ C) = IsIn-map (positions st) Es C h in
                subst (λ (B : Set ℕ). ComesBefore (positions_in_order st) (positions st E) B) F.2 ((positions_keep_the_order st standing E F.0 (inside E (inl refl)) (inside F.0 (inr F.1))).0 (up.0 F.0 F.1)),
            rising_at Es (λ F h. inside F (inr h)) up.1,
          )

-- by the mask, the parts and the order that were asked with
pub listed_conflicts :
    (S : Stock ℕ) (st : Stands) (P : PresentView) (parked : List Fact) → StandsFor S st P parked → (M L : Set ℕ) (order : List ℕ) → M ≡ mask_of st → L ≡ parts_of st → order ≡ order_of st → IsStanding st → (Ns : List (Set ℕ))
    → IsRoster (IsNogood (within M S)) Ns → (es : List Env) → AreLeastOf (meets L Ns) es → (ys : List Env) → IsListing (ComesBefore order) (λ E. HasMember es E × (E ⊆ L)) (sets ys) → AreConflicts (circuit_of P) (map (positions st) (sets ys))
listed_conflicts S st P parked r M L order same_mask same_parts same_order standing Ns all es least ys listing =
    let A : Set ℕ → Type 0 = λ X. IsRoster (IsNogood (within X S)) Ns in
    let B : Set ℕ → Type 0 = λ X. AreLeastOf (meets X Ns) es in
    let C : Set ℕ → Type 0 = λ X. IsListing (ComesBefore order) (λ E. HasMember es E × (E ⊆ X)) (sets ys) in
    let D : List ℕ → Type 0 = λ xs. IsListing (ComesBefore xs) (λ E. HasMember es E × (E ⊆ parts_of st)) (sets ys) in
    conflicts_listed S st P parked r Ns (subst A same_mask all) es (subst B same_parts least) standing ys (subst D same_order (subst C same_parts listing))
