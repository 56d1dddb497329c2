-- What a diagnosis predicts, by labels.
use Rattle.std.proofs.Common.{◌≡◌, ℕ, zero, suc, ◌<◌, inl, inr, Bool, true, false, not, ◌&&◌, cond, IsTrue, true≢false, List, [], ◌∷◌, length, Option, Some, None, IsSome, is_some, refl, sym, ap, subst, ◌∙◌, arith, ◌↔◌, nat_lt}
use Rattle.std.specs.List.{slice_get}
use Rattle.std.specs.Option.{option_map}
use Rattle.std.proofs.lemmas.Bool.{and_parts, and_from, ltb-true, lt-ltb}
use Rattle.std.proofs.lemmas.List.{length-map}
use Rattle.std.proofs.lemmas.Option.{slice_get_within}
use mathlib.Core.Path.{fun_ext}
use Rattle.assumption_slots.specs.Slots.{stock}
use Rattle.circuit_model.specs.declared.model.Assumption.{Assumption}
use Rattle.circuit_model.specs.declared.model.Assumption.TheVariants.{Reading}
use Rattle.circuit_model.specs.declared.model.Cell.{Cell}
use Rattle.circuit_model.specs.declared.model.Fact.{Fact}
use Rattle.circuit_model.specs.declared.present.Component.{Component}
use Rattle.circuit_model.specs.Closure.{fact}
use Rattle.circuit_model.specs.Diagnoses.{Place, AtPart, AtCell, with_readings, IsDiagnosis}
use Rattle.circuit_model.specs.Present.{PresentView, circuit_of, reading_in}
use Rattle.circuit_model.specs.Probe.{Predicts}
use Rattle.circuit_model.specs.Renaming.{passes, IsRenaming}
use Rattle.circuit_model.specs.Settled.{AreExact}
use Rattle.circuit_model.specs.Stock.{Stock, IsChosen, IsEnvironment, Has, IsRefutedBy, within}
use Rattle.circuit_model.specs.Whole as present
use Rattle.circuit_model.proofs.Decided.{listed_labels_decide}
use Rattle.circuit_model.proofs.Monotony.{Follows-map, Clashes-map}
use Rattle.circuit_model.proofs.Renaming.{passes-elim, passes-intro, some_of, renamed_closures, renamed_clashes}
use Rattle.environment_sets.specs.declared.environment.TheConstants.{SLOTS}
use Rattle.environment_sets.specs.Families.{IsCovered}
use Rattle.environment_sets.specs.Members.{sets}
use Rattle.environment_sets.specs.Sets.{Set, ◌⊆◌, others}
use Rattle.environment_sets.proofs.Membership.{same_bool, IsIn-slice_get, IsIn-left, slice_get-IsIn, at_place}
use Rattle.label_engine.specs.Engine.{Seen, label_of, label_at}
use Rattle.label_engine.specs.Questions.{HasLabel}
use Rattle.label_engine.proofs.Masks.{label_within}
use Rattle.standing_view.specs.Positions.{positions}
use Rattle.standing_view.specs.Standing.{Stands, order_of, parts_of, mask_of}
use Rattle.standing_view.specs.View.{StandsFor, slot_of, place_of, places}
use Rattle.standing_view.proofs.Named.{as_many_parts, stands_remembered, names, the_mask_is_remembered, within_is, within_inside}
use Rattle.standing_view.proofs.Places.{among_listed, listed_among}
use Rattle.probe_planner.specs.Covering.{is_covered, rest}
use Rattle.probe_planner.proofs.Covers.{is_covered_by}

not_true : (b : Bool) → IsTrue (not b) → IsTrue b → ⊥
not_true true h k = true≢false (sym h)
not_true false h k = true≢false (sym k)

true_not : (b : Bool) → (IsTrue b → ⊥) → IsTrue (not b)
true_not true h = absurd (h refl)
true_not false h = refl

module _ (S : Stock ℕ) (st : Stands) (s : PresentView) (parked : List Fact) (r : StandsFor S st s parked) where
  M : Set ℕ
  M = mask_of st

  renaming : IsRenaming (within (mask_of st) S) (present.stock s) (place_of st) (slot_of st)
  renaming = names S st s parked r

  as_many : length (circuit_of s).parts ≡ length st.parts
  as_many = length-map s.parts (λ (c : Component). c.part) ∙ sym (as_many_parts S st s parked r)

  -- each remembered slot is below the bound
  below : (k : ℕ) → IsSome (S k) → k < SLOTS
  below k some = elim (r.all k some) [
    | inl h ↦ r.order.below k h
    | inr h ↦ let p = r.each_parked h.reading h.listed in let same : k ≡ p.slot = r.once k p.slot h.reading h.remembered p.remembered in omega (arith, p.below, same)
  ]

  module _ (D : Set ℕ) (inside : D ⊆ parts_of st) where
    -- a measurement's slot is no component's
    not_measured : (c : Cell) (k : ℕ) → slot_of st (AtCell c) ≡ Some k → IsTrue (D k) → ⊥
    not_measured c k e h =
        let i : (i : ℕ) × (slice_get st.parts i ≡ Some k) = slice_get-IsIn st.parts k (among_listed st.parts k (inside k h)) in
        let part : place_of st k ≡ Some (AtPart i.0) = renaming.here k (AtPart i.0) i.1 in
        let cell : place_of st k ≡ Some (AtCell c) = renaming.here k (AtCell c) e in
        never (sym part ∙ cell)
      where
        never : {i : ℕ} {d : Cell} → Some (AtPart i) ≡ Some (AtCell d) → ⊥
        never e = cc

    -- the places of what stands outside the diagnosis are the other components with all measurements
    places_outside : places st (rest st D) ≡ with_readings (circuit_of s) (others (length (circuit_of s).parts) (positions st D))
    places_outside = fun_ext at where
      at : (m : Place) → places st (rest st D) m ≡ with_readings (circuit_of s) (others (length (circuit_of s).parts) (positions st D)) m
      at (AtPart i) = same_bool _ _ to from where
        to : IsTrue (passes (rest st D) (slice_get st.parts i)) → IsTrue (nat_lt i (length (circuit_of s).parts) && not (positions st D i))
        to h =
            let k : (k : ℕ) × (slice_get st.parts i ≡ Some k) × IsTrue (rest st D k) = passes-elim (rest st D) (slice_get st.parts i) h in
            let low : i < length st.parts = slice_get_within st.parts i k.0 k.1 in
            let out : positions st D i ≡ D k.0 = ap (passes D) k.1 in
            and_from (nat_lt i (length (circuit_of s).parts)) (not (positions st D i)) (lt-ltb i (length (circuit_of s).parts) (omega (arith, low, as_many))) (ap not out ∙ (and_parts (mask_of st k.0) (not (D k.0)) k.2).1)

        from : IsTrue (nat_lt i (length (circuit_of s).parts) && not (positions st D i)) → IsTrue (passes (rest st D) (slice_get st.parts i))
        from h =
            let parts = and_parts (nat_lt i (length (circuit_of s).parts)) (not (positions st D i)) h in
            let low : i < length (circuit_of s).parts = ltb-true i (length (circuit_of s).parts) parts.0 in
            let k : (k : ℕ) × (slice_get st.parts i ≡ Some k) = at_place st.parts i (omega (arith, low, as_many)) in
            let out : positions st D i ≡ D k.0 = ap (passes D) k.1 in
            let stands : IsTrue (mask_of st k.0) = listed_among (order_of st) k.0 (IsIn-left st.parts st.slots k.0 (IsIn-slice_get st.parts i k.0 k.1)) in
            passes-intro (rest st D) (slice_get st.parts i) k.0 k.1 (and_from (mask_of st k.0) (not (D k.0)) stands (sym (ap not out) ∙ parts.1))
      at (AtCell c) = same_bool _ _ to from where
        to : IsTrue (passes (rest st D) (slot_of st (AtCell c))) → IsTrue (is_some (reading_in s.readings c))
        to h =
            let k : (k : ℕ) × (slot_of st (AtCell c) ≡ Some k) × IsTrue (rest st D k) = passes-elim (rest st D) (slot_of st (AtCell c)) h in
            let stands : IsTrue (mask_of st k.0) = (and_parts (mask_of st k.0) (not (D k.0)) k.2).0 in
            let same : within (mask_of st) S k.0 ≡ present.stock s (AtCell c) = renaming.same k.0 (AtCell c) (renaming.here k.0 (AtCell c) k.1) in
            let some : IsSome (S k.0) = stands_remembered S st s parked r k.0 (among_listed (order_of st) k.0 stands) in
            measured (reading_in s.readings c) (subst (λ (o : Option Assumption). IsSome o) (sym (within_is S st s parked r k.0 stands) ∙ same) some)
          where
            measured : (o : Option ℕ) → IsSome (option_map (λ v. Reading (fact c v)) o) → IsTrue (is_some o)
            measured None h = h
            measured (Some v) h = refl

        from : IsTrue (is_some (reading_in s.readings c)) → IsTrue (passes (rest st D) (slot_of st (AtCell c)))
        from h =
            let k : (k : ℕ) × (slot_of st (AtCell c) ≡ Some k) = some_of (slot_of st (AtCell c)) (renaming.each_back (AtCell c) (named (reading_in s.readings c) h)) in
            let same : within (mask_of st) S k.0 ≡ present.stock s (AtCell c) = renaming.same k.0 (AtCell c) (renaming.here k.0 (AtCell c) k.1) in
            let stands : IsTrue (mask_of st k.0) = within_inside S st s parked r k.0 (subst (λ (o : Option Assumption). IsSome o) (sym same) (named (reading_in s.readings c) h)) in
            passes-intro (rest st D) (slot_of st (AtCell c)) k.0 k.1 (and_from (mask_of st k.0) (not (D k.0)) stands (true_not (D k.0) (not_measured c k.0 k.1)))
          where
            named : (o : Option ℕ) → IsTrue (is_some o) → IsSome (option_map (λ v. Reading (fact c v)) o)
            named None h = h
            named (Some v) h = refl

    pub outside_stands : rest st D ⊆ mask_of st
    outside_stands k h = (and_parts (mask_of st k) (not (D k)) h).0

    outside_remembered : IsEnvironment S (rest st D)
    outside_remembered k h = the_mask_is_remembered S st s parked r k (outside_stands k h)

    -- what is chosen by slots that stand is chosen of what stands alone, and the other way round
    chosen_to : (a : Assumption) → IsChosen S (rest st D) a → IsChosen (within (mask_of st) S) (rest st D) a
    chosen_to a h = record { name = h.name; chosen = h.chosen; named = within_is S st s parked r h.name (outside_stands h.name h.chosen) ∙ h.named }

    chosen_from : (a : Assumption) → IsChosen (within (mask_of st) S) (rest st D) a → IsChosen S (rest st D) a
    chosen_from a h = record { name = h.name; chosen = h.chosen; named = sym (within_is S st s parked r h.name (outside_stands h.name h.chosen)) ∙ h.named }

    has_by_places : (c : Cell) (v : ℕ) → Has S (fact c v) (rest st D) ↔ Predicts (circuit_of s) c (positions st D) v
    has_by_places c v =
        let both = renamed_closures ℕ Place (within (mask_of st) S) (present.stock s) (place_of st) (slot_of st) renaming (fact c v) (rest st D) in
        let Q : Set Place → Type 0 = λ E. Has (present.stock s) (fact c v) E in (
          λ h. subst Q places_outside (both.0 (Follows-map chosen_to (fact c v) h)),
          λ h. Follows-map chosen_from (fact c v) (both.1 (subst Q (sym places_outside) h)),
        )

    module _ (is : IsDiagnosis (circuit_of s) (positions st D)) where
      outside_consistent : IsRefutedBy S (rest st D) → ⊥
      outside_consistent clash =
          let Q : Set Place → Type 0 = λ E. IsRefutedBy (present.stock s) E in
          is.minimal.holds (subst Q places_outside ((renamed_clashes ℕ Place (within (mask_of st) S) (present.stock s) (place_of st) (slot_of st) renaming (rest st D)).0 (Clashes-map chosen_to clash)))

      -- the diagnosis predicts a word exactly where the word's label covers what stands outside it
      pub covers_predictions : (seen : Seen) → (stock seen.slots ≡ S) → (N : Set ℕ → Type 0) → AreExact S (label_at seen) N → (c : Cell) (v : ℕ) → IsTrue (is_covered seen c v (rest st D)) ↔ Predicts (circuit_of s) c (positions st D) v
      covers_predictions seen same N exact c v =
          let decide = listed_labels_decide SLOTS S below (fact c v) (sets (label_of seen.kept (fact c v))) (exact.labels (fact c v)) (rest st D) outside_remembered outside_consistent in (
            λ h. (has_by_places c v).0 (decide.1 ((is_covered_by seen c v (rest st D)).0 h)),
            λ h. (is_covered_by seen c v (rest st D)).1 (decide.0 ((has_by_places c v).1 h)),
          )

    -- a word whose label covers what stands outside has a label among what stands
    pub covering_words : (seen : Seen) (N : Set ℕ → Type 0) → AreExact S (label_at seen) N → (c : Cell) (v : ℕ) → IsTrue (is_covered seen c v (rest st D)) → HasLabel (within (mask_of st) S) c v
    covering_words seen N exact c v h =
        let m : IsCovered (label_at seen (fact c v)) (rest st D) = (is_covered_by seen c v (rest st D)).0 h in
        (m.0, (label_within (mask_of st) S (fact c v) m.0).1 ((exact.labels (fact c v) m.0).0 m.1, λ k at. outside_stands k (m.2 k at)))
