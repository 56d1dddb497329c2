-- What stands, with one component or one measurement more.
use Rattle.std.proofs.Common.{◌≡◌, ◌≢◌, ℕ, ◌<◌, ◌⊎◌, inl, inr, List, [], ◌∷◌, ◌++◌, map, Option, Some, None, IsSome, refl, sym, ap, ap₂, subst, ◌∙◌, arith}
use Rattle.std.proofs.lemmas.Bool.{cases_eq}
use Rattle.std.specs.List.{insert}
use Rattle.std.proofs.lemmas.List.{map_push}
use Rattle.circuit_model.specs.declared.model.Cell.{Cell}
use Rattle.circuit_model.specs.declared.model.Fact.{Fact}
use Rattle.circuit_model.specs.declared.model.Assumption.{Assumption}
use Rattle.circuit_model.specs.declared.model.Assumption.TheVariants.{Part, Reading}
use Rattle.circuit_model.specs.declared.present.Component.{Component}
use Rattle.circuit_model.specs.Present.{PresentView, reading_in, with_reading, with_standing}
use Rattle.circuit_model.specs.Stock.{Stock}
use Rattle.environment_sets.specs.declared.environment.TheConstants.{SLOTS}
use Rattle.environment_sets.specs.Lists.{IsIn}
use Rattle.environment_sets.proofs.Membership.{IsIn-append, IsIn-left, IsIn-right, IsIn-more, IsIn-still, IsIn-there, map_alike, map-IsIn}
use Rattle.label_engine.specs.Engine.{Remembers}
use Rattle.standing_view.specs.Standing.{Stands, order_of, place_among, with_part_at, with_reading_at}
use Rattle.standing_view.specs.View.{StandsFor, IsParked, IsReadingOf}
use Rattle.standing_view.specs.Laws.{OneComponentMore, OneMeasurementMore}
use Rattle.standing_view.proofs.Aligned.{one_alike}
use Rattle.standing_view.proofs.Inserted.{map-insert, order_more, order_inserted, kept_inserted, there_inserted, in_inserted, rising_inserted, reading_inserted, not_measured}
use Rattle.standing_view.proofs.Named.{free_slots_do_not_stand}

pub some_is_not_none : (a : Assumption) → Some a ≡ None → ⊥
some_is_not_none a e = cc

pub is_some : (o : Option Assumption) (a : Assumption) → o ≡ Some a → IsSome o
is_some o a e = rw e refl

same_assumption : (a b : Assumption) → Some a ≡ Some b → a ≡ b
same_assumption a b e = cc

pub same_reading : (f g : Fact) → Some (Reading f) ≡ Some (Reading g) → f ≡ g
same_reading f g e = cc

part_is_no_reading : (c : Component) (f : Fact) → Part c.part ≡ Reading f → ⊥
part_is_no_reading c f e = cc

module _ (S : Stock ℕ) (st : Stands) (P : PresentView) (parked : List Fact) (r : StandsFor S st P parked) where
  -- what stands with a cell that is not measured is no reading of that cell
  pub no_other : (f : Fact) → reading_in P.readings f.cell ≡ None → (k : ℕ) → S k ≡ Some (Reading f) → IsIn (order_of st) k → ⊥
  no_other f free k at h = elim (IsIn-append st.parts st.slots k h) as (λ _. ⊥) [
    | inl l ↦ let c : (c : Component) × (S k ≡ Some (Part c.part)) = one_alike S (λ (c : Component). Some (Part c.part)) st.parts P.parts r.components k l in never c.0 (sym at ∙ c.1)
    | inr l ↦
        let g : (g : Fact) × IsIn P.readings g × (S k ≡ Some (Reading g)) = reading_at st.slots P.readings r.measurements l in
        let same : f ≡ g.0 = same_reading f g.0 (sym at ∙ g.2) in
        not_measured P.readings f.cell free (subst (λ (c : Cell). IsIn (map (λ f. f.cell) P.readings) c) (ap (λ (g : Fact). g.cell) (sym same)) (map-IsIn (λ (f : Fact). f.cell) P.readings g.0 g.1))
  ]
    where
      never : (c : Component) → Some (Reading f) ≡ Some (Part c.part) → ⊥
      never c e = cc

      reading_at : (slots : List ℕ) (fs : List Fact) → map S slots ≡ map (λ f. Some (Reading f)) fs → IsIn slots k → (g : Fact) × IsIn fs g × (S k ≡ Some (Reading g))
      reading_at [] fs same h = absurd h
      reading_at (x ∷ slots) [] same h = absurd (cc)
      reading_at (x ∷ slots) (g ∷ fs) same (inl e) = let here : S x ≡ Some (Reading g) = cc in (g, inl refl, subst (λ (j : ℕ). S j ≡ Some (Reading g)) e here)
      reading_at (x ∷ slots) (g ∷ fs) same (inr h) =
          let tail : map S slots ≡ map (λ f. Some (Reading f)) fs = cc in
          let rest : (g : Fact) × IsIn fs g × (S k ≡ Some (Reading g)) = reading_at slots fs tail h in
          (rest.0, inr rest.1, rest.2)

  -- what is no parked reading, of a cell that is not measured, is remembered nowhere
  pub nowhere : (f : Fact) → reading_in P.readings f.cell ≡ None → (IsIn parked f → ⊥) → (k : ℕ) → S k ≡ Some (Reading f) → ⊥
  nowhere f free out k at = elim (r.all k (is_some (S k) (Reading f) at)) as (λ _. ⊥) [
    | inl l ↦ no_other f free k at l
    | inr p ↦ out (subst (λ (g : Fact). IsIn parked g) (same_reading p.reading f (sym p.remembered ∙ at)) p.listed)
  ]

-- what stands for the present with the reading, by what is remembered of it
module _
    (S R : Stock ℕ) (st : Stands) (P : PresentView) (parked : List Fact) (r : StandsFor S st P parked) (as_before : (k : ℕ) → IsIn (order_of st) k → R k ≡ S k)
  where
    pub parts_as_before : map R st.parts ≡ map S st.parts
    parts_as_before = map_alike R S st.parts (λ k h. as_before k (IsIn-left st.parts st.slots k h))

    pub slots_as_before : map R st.slots ≡ map S st.slots
    slots_as_before = map_alike R S st.slots (λ k h. as_before k (IsIn-right st.parts st.slots k h))

    module _ (slot : ℕ) (f : Fact) (low : slot < SLOTS) (there : R slot ≡ Some (Reading f)) (new : IsIn (order_of st) slot → ⊥) (free : reading_in P.readings f.cell ≡ None) (now_parked : List Fact) where
      abbrev Now : Stands
      Now = with_reading_at slot f.cell st

      pub one_reading_more :
          ((g : Fact) → IsIn now_parked g → IsParked R Now g) → ((k l : ℕ) (g : Fact) → R k ≡ Some (Reading g) → R l ≡ Some (Reading g) → k ≡ l)
          → ((k : ℕ) → IsSome (R k) → IsIn (order_of Now) k ⊎ IsReadingOf R now_parked k) → StandsFor R Now (with_standing f P) now_parked
      one_reading_more each_parked once all =
          let cell : Fact → Cell = λ f. f.cell in
          let v : Fact → Option Assumption = λ f. Some (Reading f) in
          let place : ℕ = place_among f.cell st.cells in
          let inserted : with_reading f P.readings ≡ insert P.readings place f = reading_inserted f P.readings ∙ ap (λ (cells : List Cell). insert P.readings (place_among f.cell cells) f) (sym r.measured) in
          record {
            components = parts_as_before ∙ r.components;
            measured = ap (λ (cells : List Cell). insert cells place f.cell) r.measured ∙ (sym (map-insert cell P.readings place f) ∙ ap (map cell) (sym inserted));
            measurements =
                map-insert R st.slots place slot
                ∙ (ap₂ (λ (xs : List (Option Assumption)) (x : Option Assumption). insert xs place x) (slots_as_before ∙ r.measurements) there ∙ (sym (map-insert v P.readings place f) ∙ ap (map v) (sym inserted)));
            order = order_inserted SLOTS st.parts st.slots place slot r.order low new;
            rising = rising_inserted f.cell st.cells (λ h. not_measured P.readings f.cell free (subst (λ (cells : List Cell). IsIn cells f.cell) r.measured h)) r.rising;
            each_parked = each_parked;
            once = once;
            all = all;
          }

module _ (S R : Stock ℕ) (st : Stands) (P : PresentView) (parked : List Fact) (slot : ℕ) (what : Assumption) (r : StandsFor S st P parked) (m : Remembers S slot what R) where
  new : IsIn (order_of st) slot → ⊥
  new h = free_slots_do_not_stand S st P parked r slot m.free h

  as_before : (k : ℕ) → IsIn (order_of st) k → R k ≡ S k
  as_before k h = m.others k (λ e. new (subst (λ (j : ℕ). IsIn (order_of st) j) e h))

  -- what was remembered is elsewhere
  elsewhere : (k : ℕ) (a : Assumption) → S k ≡ Some a → k ≢ slot
  elsewhere k a at e = some_is_not_none a (sym at ∙ (ap S e ∙ m.free))

  -- a parked reading still is where only the new slot stands besides
  still_parked : (now : Stands) → ((k : ℕ) → IsIn (order_of now) k → (slot ≡ k) ⊎ IsIn (order_of st) k) → (g : Fact) → IsIn parked g → IsParked R now g
  still_parked now from g h =
      let p : IsParked S st g = r.each_parked g h in
      let other : p.slot ≢ slot = elsewhere p.slot (Reading g) p.remembered in
      record {
        slot = p.slot;
        below = p.below;
        remembered = m.others p.slot other ∙ p.remembered;
        apart = λ at. elim (from p.slot at) as (λ _. ⊥) [ inl e ↦ other (sym e) | inr l ↦ p.apart l ];
      }

  -- a reading that is remembered nowhere is remembered once
  still_once : ((k : ℕ) (g : Fact) → what ≡ Reading g → S k ≡ Some (Reading g) → ⊥) → (k l : ℕ) (g : Fact) → R k ≡ Some (Reading g) → R l ≡ Some (Reading g) → k ≡ l
  still_once never k l g a b = elim (cases_eq k slot) as (λ _. k ≡ l) [
    | inl e ↦ elim (cases_eq l slot) as (λ _. k ≡ l) [ inl d ↦ e ∙ sym d | inr nl ↦ absurd (never l g (is_new k e a) (sym (m.others l nl) ∙ b)) ]
    | inr nk ↦ elim (cases_eq l slot) as (λ _. k ≡ l) [
      | inl d ↦ absurd (never k g (is_new l d b) (sym (m.others k nk) ∙ a))
      | inr nl ↦ r.once k l g (sym (m.others k nk) ∙ a) (sym (m.others l nl) ∙ b)
    ]
  ]
    where
      is_new : (j : ℕ) → j ≡ slot → R j ≡ Some (Reading g) → what ≡ Reading g
      is_new j e at = same_assumption what (Reading g) (sym m.there ∙ (ap R (sym e) ∙ at))

  -- what is remembered is the new assumption or was remembered before
  all_stand : (now : Stands) → IsIn (order_of now) slot → ((k : ℕ) → IsIn (order_of st) k → IsIn (order_of now) k) → (k : ℕ) → IsSome (R k) → IsIn (order_of now) k ⊎ IsReadingOf R parked k
  all_stand now there kept k h = elim (cases_eq k slot) as (λ _. IsIn (order_of now) k ⊎ IsReadingOf R parked k) [
    | inl e ↦ inl (subst (λ (j : ℕ). IsIn (order_of now) j) (sym e) there)
    | inr ne ↦ elim (r.all k (subst (λ (o : Option Assumption). IsSome o) (m.others k ne) h)) as (λ _. IsIn (order_of now) k ⊎ IsReadingOf R parked k) [
      | inl l ↦ inl (kept k l)
      | inr p ↦ inr (record { reading = p.reading; listed = p.listed; remembered = m.others k ne ∙ p.remembered })
    ]
  ]

pub one_component_more : OneComponentMore
one_component_more S R st P parked slot c r m =
    let what : Assumption = Part c.part in
    let v : Component → Option Assumption = λ c. Some (Part c.part) in
    let now : Stands = with_part_at slot st in
    let same : (k : ℕ) → IsIn (order_of st) k → R k ≡ S k = as_before S R st P parked slot what r m in
    record {
      components = map_push R st.parts slot ∙ (ap₂ (λ (xs : List (Option Assumption)) (x : Option Assumption). xs ++ x ∷ []) (parts_as_before S R st P parked r same ∙ r.components) m.there ∙ sym (map_push v P.parts c));
      measured = r.measured;
      measurements = slots_as_before S R st P parked r same ∙ r.measurements;
      order = order_more SLOTS st.parts st.slots slot r.order m.below (new S R st P parked slot what r m);
      rising = r.rising;
      each_parked = still_parked S R st P parked slot what r m now (λ k h. IsIn-more st.parts st.slots slot k h);
      once = still_once S R st P parked slot what r m (λ k g e _. part_is_no_reading c g e);
      all = all_stand S R st P parked slot what r m now (IsIn-there st.parts st.slots slot) (λ k h. IsIn-still st.parts st.slots slot k h);
    }

pub one_measurement_more : OneMeasurementMore
one_measurement_more S R st P parked slot f r free out m =
    let what : Assumption = Reading f in
    let place : ℕ = place_among f.cell st.cells in
    let now : Stands = with_reading_at slot f.cell st in
    one_reading_more S R st P parked r (as_before S R st P parked slot what r m) slot f m.below m.there (new S R st P parked slot what r m) free parked
    (still_parked S R st P parked slot what r m now (λ k h. in_inserted st.parts st.slots place slot k h))
    (still_once S R st P parked slot what r m (λ k g e at. nowhere S st P parked r f free out k (at ∙ ap (λ (a : Assumption). Some a) (sym e))))
    (all_stand S R st P parked slot what r m now (there_inserted st.parts st.slots place slot) (λ k h. kept_inserted st.parts st.slots place slot k h))
