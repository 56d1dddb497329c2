-- Slots that stand for a present name its assumptions.
use Rattle.std.proofs.Common.{◌≡◌, ℕ, zero, suc, ◌+◌, ◌<◌, inl, inr, Bool, true, false, cond, IsTrue, true≢false, List, [], ◌∷◌, ◌++◌, length, map, Option, Some, None, IsSome, refl, sym, ap, ap₂, subst, ◌∙◌, arith, zero-add}
use Rattle.std.specs.List.{slice_get, range_with_len}
use Rattle.std.specs.Option.{option_map}
use Rattle.std.proofs.lemmas.List.{map-append, length-map, length-append}
use Rattle.std.proofs.lemmas.Option.{slice_get-map, slice_get_within}
use Rattle.circuit_model.specs.declared.model.Cell.{Cell}
use Rattle.circuit_model.specs.declared.model.Fact.{Fact}
use Rattle.circuit_model.specs.declared.model.Instance.{Instance}
use Rattle.circuit_model.specs.declared.model.Assumption.{Assumption}
use Rattle.circuit_model.specs.declared.model.Assumption.TheVariants.{Part, Reading}
use Rattle.circuit_model.specs.declared.present.Component.{Component}
use Rattle.circuit_model.specs.Closure.{fact}
use Rattle.circuit_model.specs.Diagnoses.{Place, AtPart, AtCell}
use Rattle.circuit_model.specs.Present.{PresentView, is_cell, reading_in}
use Rattle.circuit_model.specs.Stock.{Stock, IsEnvironment, within}
use Rattle.circuit_model.specs.Whole.{stock, everything, places_in_order, order_of_present}
use Rattle.circuit_model.specs.Renaming.{passes, along, IsRenaming}
use Rattle.circuit_model.proofs.SameCells.{same_cell, cell_itself}
use Rattle.circuit_model.proofs.Renaming.{passes-elim, passes-intro, is_some_of, renamed_labels, renamed_nogoods}
use Rattle.circuit_model.proofs.Settled.{same_set}
use Rattle.environment_sets.specs.Sets.{Set, ◌⊆◌}
use Rattle.environment_sets.specs.Lists.{IsIn, AreDistinct}
use Rattle.environment_sets.proofs.Membership.{IsIn-append, IsIn-left, IsIn-right, map-IsIn}
use Rattle.standing_view.specs.Standing.{Stands, order_of, mask_of}
use Rattle.standing_view.specs.View.{StandsFor, slot_of, place_of, places}
use Rattle.standing_view.specs.Laws.{SlotsNameThePresent, SlotsHaveItsLabels, SlotsHaveItsNogoods, IsTheSetOf, EnvironmentsAreSlots, SlotsAreEnvironments, TheMaskIsRemembered, TheMaskIsEverything, FreeSlotsDoNotStand}
use Rattle.standing_view.proofs.Aligned.{StandBeside, in_first, from_first, from_second, alike_beside, one_alike, all_alike}
use Rattle.standing_view.proofs.Places.{ordered_are_distinct, among_listed, listed_among, length-places, slot_is, slot_stands, place_is, place_stands}
use Rattle.environment_sets.proofs.Listings.{none_is_not}

mapped_some : {A B : Type 0} (f : A → B) (o : Option A) → IsSome (option_map f o) → (x : A) × (o ≡ Some x)
mapped_some f None h = absurd (true≢false (sym h))
mapped_some f (Some x) h = (x, refl)

passes_at : {A : Type 0} (p : A → Bool) (o : Option A) (x : A) → o ≡ Some x → IsTrue (passes p o) → IsTrue (p x)
passes_at p o x e h = rw e at h

module _ {Y Z : Type 0} (R : Z → Y) (name : ℕ → Z) where
  -- what each position has
  by_positions : {X : Type 0} (v : X → Y) (xs : List X) (i : ℕ) → ((j : ℕ) (x : X) → slice_get xs j ≡ Some x → R (name (i + j)) ≡ v x) → map R (map name (range_with_len i (length xs))) ≡ map v xs
  by_positions v [] i same = refl
  by_positions v (x ∷ xs) i same =
      let n : i + 0 ≡ i = omega arith in
      let head : R (name i) ≡ v x = ap (λ (p : ℕ). R (name p)) (sym n) ∙ same 0 x refl in
      let tail : map R (map name (range_with_len (i + 1) (length xs))) ≡ map v xs = by_positions v xs (i + 1) (λ j y e. let m : (i + 1) + j ≡ i + suc j = omega arith in ap (λ (p : ℕ). R (name p)) m ∙ same (suc j) y e) in
      ap₂ (λ (y : Y) (ys : List Y). y ∷ ys) head tail

in_positions : (n a i : ℕ) → i < n → IsIn (map AtPart (range_with_len a n)) (AtPart (a + i))
in_positions zero a i low = absurd (omega arith)
in_positions (suc n) a zero low = let e : a ≡ a + 0 = omega arith in inl (ap AtPart e)
in_positions (suc n) a (suc i) low = let e : (a + 1) + i ≡ a + suc i = omega arith in inr (subst (λ (p : ℕ). IsIn (map AtPart (range_with_len (a + 1) n)) (AtPart p)) e (in_positions n (a + 1) i (omega arith)))

-- the word of a measured cell is that of its measurement
measured_is : (fs : List Fact) → AreDistinct (map (λ f. f.cell) fs) → (f : Fact) → IsIn fs f → reading_in fs f.cell ≡ Some f.value
measured_is [] apart f h = absurd h
measured_is (g ∷ fs) apart f (inl e) = subst (λ (h : Fact). reading_in (g ∷ fs) h.cell ≡ Some h.value) e (let t : is_cell g.cell g.cell ≡ true = cell_itself g.cell in rw t refl)
measured_is (g ∷ fs) apart f (inr h) =
    elim (is_cell g.cell f.cell) as (λ b. is_cell g.cell f.cell ≡ b → cond b (Some g.value) (reading_in fs f.cell) ≡ Some f.value) [
      | true ↦ λ e. absurd (apart.0 f.cell (map-IsIn (λ (f : Fact). f.cell) fs f h) (same_cell g.cell f.cell e))
      | false ↦ λ _. measured_is fs apart.1 f h
    ] refl

measured_in : (fs : List Fact) (c : Cell) → IsSome (reading_in fs c) → IsIn (map (λ f. f.cell) fs) c
measured_in [] c h = absurd (true≢false (sym h))
measured_in (g ∷ fs) c h =
    elim (is_cell g.cell c) as (λ b. is_cell g.cell c ≡ b → IsSome (cond b (Some g.value) (reading_in fs c)) → IsIn (map (λ f. f.cell) (g ∷ fs)) c) [
      | true ↦ λ e _. inl (same_cell g.cell c e)
      | false ↦ λ _ h. inr (measured_in fs c h)
    ] refl h

module _ (S : Stock ℕ) (st : Stands) (P : PresentView) (parked : List Fact) (r : StandsFor S st P parked) where
  pub as_many_parts : length st.parts ≡ length P.parts
  as_many_parts = sym (length-map st.parts S) ∙ (ap (λ xs. length xs) r.components ∙ length-map P.parts (λ (c : Component). Some (Part c.part)))

  pub as_many_slots : length st.slots ≡ length st.cells
  as_many_slots = sym (length-map st.slots S) ∙ (ap (λ xs. length xs) r.measurements ∙ (length-map P.readings (λ (f : Fact). Some (Reading f)) ∙ (sym (length-map P.readings (λ (f : Fact). f.cell)) ∙ ap (λ (cs : List Cell). length cs) (sym r.measured))))

  as_long : length (order_of st) ≡ length (places_in_order (length st.parts) st.cells)
  as_long = length-append st.parts st.slots ∙ (ap (λ n. length st.parts + n) as_many_slots ∙ sym (length-places (length st.parts) st.cells))

  part_at : (j : ℕ) (c : Component) → slice_get P.parts j ≡ Some c → stock P (AtPart j) ≡ Some (Part c.part)
  part_at j c e = ap (option_map Part) (slice_get-map (λ (c : Component). c.part) P.parts j ∙ ap (option_map (λ (c : Component). c.part)) e)

  measured_at : (f : Fact) → IsIn P.readings f → stock P (AtCell f.cell) ≡ Some (Reading f)
  measured_at f h =
      let apart : AreDistinct (map (λ (f : Fact). f.cell) P.readings) = subst (λ (cs : List Cell). AreDistinct cs) r.measured (ordered_are_distinct st.cells r.rising) in
      ap (option_map (λ (v : ℕ). Reading (fact f.cell v))) (measured_is P.readings apart f h)

  -- element for element, the order has what the places have
  same_assumptions : map S (order_of st) ≡ map (stock P) (places_in_order (length st.parts) st.cells)
  same_assumptions =
      let parts : map (stock P) (map AtPart (range_with_len 0 (length st.parts))) ≡ map S st.parts =
      ap (λ (n : ℕ). map (stock P) (map AtPart (range_with_len 0 n))) as_many_parts
      ∙ (by_positions (stock P) AtPart (λ (c : Component). Some (Part c.part)) P.parts 0 (λ j c e. ap (λ (i : ℕ). stock P (AtPart i)) (zero-add j) ∙ part_at j c e) ∙ sym r.components) in
      let cells : map (stock P) (map AtCell st.cells) ≡ map S st.slots =
      ap (λ (cs : List Cell). map (stock P) (map AtCell cs)) r.measured ∙ (by_cells P.readings (λ f h. measured_at f h) ∙ sym r.measurements) in
      map-append S st.parts st.slots
      ∙ (ap₂ (λ (xs ys : List (Option Assumption)). xs ++ ys) (sym parts) (sym cells) ∙ sym (map-append (stock P) (map AtPart (range_with_len 0 (length st.parts))) (map AtCell st.cells)))
    where
      by_cells : (fs : List Fact) → ((f : Fact) → IsIn fs f → stock P (AtCell f.cell) ≡ Some (Reading f)) → map (stock P) (map AtCell (map (λ f. f.cell) fs)) ≡ map (λ f. Some (Reading f)) fs
      by_cells [] same = refl
      by_cells (f ∷ fs) same = ap₂ (λ (a : Option Assumption) (as' : List (Option Assumption)). a ∷ as') (same f (inl refl)) (by_cells fs (λ g h. same g (inr h)))

  abbrev Beside : ℕ → Place → Type 0
  Beside k m = StandBeside (order_of st) (places_in_order (length st.parts) st.cells) k m

  pub named_alike : (k : ℕ) (m : Place) → Beside k m → S k ≡ stock P m
  named_alike k m h = alike_beside S (stock P) (order_of st) (places_in_order (length st.parts) st.cells) same_assumptions k m h

  -- each slot that stands is remembered
  pub stands_remembered : (k : ℕ) → IsIn (order_of st) k → IsSome (S k)
  stands_remembered k h = elim (IsIn-append st.parts st.slots k h) as (λ _. IsSome (S k)) [
    | inl l ↦ let e : (c : Component) × (S k ≡ Some (Part c.part)) = one_alike S (λ (c : Component). Some (Part c.part)) st.parts P.parts r.components k l in is_some_of (S k) (Part e.0.part) e.1
    | inr l ↦ let e : (f : Fact) × (S k ≡ Some (Reading f)) = one_alike S (λ (f : Fact). Some (Reading f)) st.slots P.readings r.measurements k l in is_some_of (S k) (Reading e.0) e.1
  ]

  -- each assumption of the present has its place in the order
  place_listed : (m : Place) → IsSome (stock P m) → IsIn (places_in_order (length st.parts) st.cells) m
  place_listed (AtPart i) h =
      let p : (x : List Instance) × (slice_get (map (λ (c : Component). c.part) P.parts) i ≡ Some x) = mapped_some Part (slice_get (map (λ (c : Component). c.part) P.parts) i) h in
      let low : i < length (map (λ (c : Component). c.part) P.parts) = slice_get_within _ i p.0 p.1 in
      let short : i < length st.parts = omega (arith, as_many_parts, length-map P.parts (λ (c : Component). c.part)) in
      IsIn-left (map AtPart (range_with_len 0 (length st.parts))) (map AtCell st.cells) (AtPart i)
      (subst (λ (p : ℕ). IsIn (map AtPart (range_with_len 0 (length st.parts))) (AtPart p)) (zero-add i) (in_positions (length st.parts) 0 i short))
  place_listed (AtCell c) h =
      let p : (v : ℕ) × (reading_in P.readings c ≡ Some v) = mapped_some (λ (v : ℕ). Reading (fact c v)) (reading_in P.readings c) h in
      let at : IsIn st.cells c = subst (λ (cs : List Cell). IsIn cs c) (sym r.measured) (measured_in P.readings c (is_some_of _ p.0 p.1)) in
      IsIn-right (map AtPart (range_with_len 0 (length st.parts))) (map AtCell st.cells) (AtCell c) (map-IsIn AtCell st.cells c at)

  pub slot_for : (m : Place) → IsSome (stock P m) → (k : ℕ) × Beside k m
  slot_for m h = from_second (order_of st) (places_in_order (length st.parts) st.cells) as_long m (place_listed m h)

  pub place_for : (k : ℕ) → IsTrue (mask_of st k) → (m : Place) × Beside k m
  place_for k h = from_first (order_of st) (places_in_order (length st.parts) st.cells) as_long k (among_listed (order_of st) k h)

  inside_mask : (k : ℕ) (m : Place) → Beside k m → IsTrue (mask_of st k)
  inside_mask k m h = listed_among (order_of st) k (in_first (order_of st) (places_in_order (length st.parts) st.cells) k m h)

  pub within_is : (k : ℕ) → IsTrue (mask_of st k) → within (mask_of st) S k ≡ S k
  within_is k h = rw h refl

  pub within_inside : (k : ℕ) → IsSome (within (mask_of st) S k) → IsTrue (mask_of st k)
  within_inside k h = first (mask_of st k) (S k) h where
    first : (b : Bool) (o : Option Assumption) → IsSome (cond b o None) → IsTrue b
    first true o h = refl
    first false o h = h

  pub names : IsRenaming (within (mask_of st) S) (stock P) (place_of st) (slot_of st)
  names = record {
    each = λ k h. let m : (m : Place) × Beside k m = place_for k (within_inside k h) in is_some_of (place_of st k) m.0 (place_is st r.order.distinct k m.0 m.1);
    each_back = λ m h. let k : (k : ℕ) × Beside k m = slot_for m h in is_some_of (slot_of st m) k.0 (slot_is st r.rising k.0 m k.1);
    there = λ k m e. slot_is st r.rising k m (place_stands st k m e);
    here = λ k m e. place_is st r.order.distinct k m (slot_stands st r.rising k m e);
    same = λ k m e. let h : Beside k m = place_stands st k m e in within_is k (inside_mask k m h) ∙ named_alike k m h;
  }

  pub inside_environment : (E : Set ℕ) → E ⊆ mask_of st → IsEnvironment (within (mask_of st) S) E
  inside_environment E inside k h =
      let in_mask : IsTrue (mask_of st k) = inside k h in
      let P : Option Assumption → Type 0 = IsSome in
      subst P (sym (within_is k in_mask)) (stands_remembered k (among_listed (order_of st) k in_mask))

  pub places_environment : (E : Set ℕ) → E ⊆ mask_of st → IsEnvironment (stock P) (places st E)
  places_environment E inside m h =
      let k : (k : ℕ) × (slot_of st m ≡ Some k) × IsTrue (E k) = passes-elim E (slot_of st m) h in
      let P : Option Assumption → Type 0 = IsSome in
      subst P (named_alike k.0 m (slot_stands st r.rising k.0 m k.1)) (stands_remembered k.0 (among_listed (order_of st) k.0 (inside k.0 k.2)))

  pub mask_places : places st (mask_of st) ≡ everything P
  mask_places = same_set (places st (mask_of st)) (everything P) (places_environment (mask_of st) (λ k h. h)) (λ m h.
      let k : (k : ℕ) × Beside k m = slot_for m h in
      let e : slot_of st m ≡ Some k.0 = slot_is st r.rising k.0 m k.1 in
      rw e (inside_mask k.0 m k.1))

  module _ (F : Set Place) (env : IsEnvironment (stock P) F) where
    abbrev SlotsFor : Set ℕ
    SlotsFor = along (place_of st) F

    for_inside : SlotsFor ⊆ mask_of st
    for_inside k h = let m : (m : Place) × (place_of st k ≡ Some m) × IsTrue (F m) = passes-elim F (place_of st k) h in inside_mask k m.0 (place_stands st k m.0 m.1)

    for_to : places st SlotsFor ⊆ F
    for_to m h =
        let k : (k : ℕ) × (slot_of st m ≡ Some k) × IsTrue (SlotsFor k) = passes-elim SlotsFor (slot_of st m) h in
        let e : place_of st k.0 ≡ Some m = place_is st r.order.distinct k.0 m (slot_stands st r.rising k.0 m k.1) in
        passes_at F (place_of st k.0) m e k.2

    for_from : F ⊆ places st SlotsFor
    for_from m h =
        let k : (k : ℕ) × Beside k m = slot_for m (env m h) in
        passes-intro SlotsFor (slot_of st m) k.0 (slot_is st r.rising k.0 m k.1) (passes-intro F (place_of st k.0) m (place_is st r.order.distinct k.0 m k.1) h)

    for_only : (G : Set ℕ) → G ⊆ mask_of st → places st G ≡ F → G ≡ SlotsFor
    for_only G inside same = same_set G SlotsFor
        (λ k h.
        let m : (m : Place) × Beside k m = place_for k (inside k h) in
        let there : IsTrue (places st G m.0) = passes-intro G (slot_of st m.0) k (slot_is st r.rising k m.0 m.1) h in
        passes-intro F (place_of st k) m.0 (place_is st r.order.distinct k m.0 m.1) (subst (λ (H : Set Place). IsTrue (H m.0)) same there))
        (λ k h.
        let m : (m : Place) × (place_of st k ≡ Some m) × IsTrue (F m) = passes-elim F (place_of st k) h in
        let there : IsTrue (places st G m.0) = subst (λ (H : Set Place). IsTrue (H m.0)) (sym same) m.2 in
        passes_at G (slot_of st m.0) k (slot_is st r.rising k m.0 (place_stands st k m.0 m.1)) there)

    the_slots : (E : Set ℕ) × IsTheSetOf st F E
    the_slots = (SlotsFor, record { inside = for_inside; is = same_set (places st SlotsFor) F for_to for_from; only = for_only })

pub environments_are_slots : EnvironmentsAreSlots
environments_are_slots S st P parked r F env = the_slots S st P parked r F env

pub slots_name_the_present : SlotsNameThePresent
slots_name_the_present S st P parked r = names S st P parked r

pub slots_have_its_labels : SlotsHaveItsLabels
slots_have_its_labels S st P parked r f E inside = renamed_labels ℕ Place (within (mask_of st) S) (stock P) (place_of st) (slot_of st) (names S st P parked r) f E (inside_environment S st P parked r E inside)

pub slots_have_its_nogoods : SlotsHaveItsNogoods
slots_have_its_nogoods S st P parked r E inside = renamed_nogoods ℕ Place (within (mask_of st) S) (stock P) (place_of st) (slot_of st) (names S st P parked r) E (inside_environment S st P parked r E inside)

pub slots_are_environments : SlotsAreEnvironments
slots_are_environments S st P parked r E inside = places_environment S st P parked r E inside

pub the_mask_is_remembered : TheMaskIsRemembered
the_mask_is_remembered S st P parked r k h = stands_remembered S st P parked r k (among_listed (order_of st) k h)

pub the_mask_is_everything : TheMaskIsEverything
the_mask_is_everything S st P parked r = mask_places S st P parked r

pub free_slots_do_not_stand : FreeSlotsDoNotStand
free_slots_do_not_stand S st P parked r k free h = none_is_not (S k) free (stands_remembered S st P parked r k h)

module _ (S : Stock ℕ) (st : Stands) (P : PresentView) (parked : List Fact) (r : StandsFor S st P parked) where
  -- a place has what its slot has
  pub place_has : (E : Set ℕ) (k : ℕ) (m : Place) → StandBeside (order_of st) (places_in_order (length st.parts) st.cells) k m → E k ≡ places st E m
  place_has E k m h = let e : slot_of st m ≡ Some k = slot_is st r.rising k m h in rw e refl

  pub order_is : places_in_order (length st.parts) st.cells ≡ order_of_present P
  order_is = ap₂ places_in_order (as_many_parts S st P parked r) r.measured

  -- element for element, the order is in the set as the places are
  pub same_answers : (E : Set ℕ) → map E (order_of st) ≡ map (places st E) (order_of_present P)
  same_answers E = all_alike E (places st E) (order_of st) (places_in_order (length st.parts) st.cells) (as_long S st P parked r) (place_has E) ∙ ap (λ (ms : List Place). map (places st E) ms) order_is
