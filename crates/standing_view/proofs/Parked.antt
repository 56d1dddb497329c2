-- Readings that are parked, stand again, and are forgotten.
use Rattle.std.proofs.Common.{◌≡◌, ◌≢◌, ℕ, zero, suc, ◌<◌, ◌==◌, ◌⊎◌, inl, inr, Bool, true, false, not, IsTrue, List, [], ◌∷◌, map, Option, Some, None, IsSome, refl, sym, ap, subst, ◌∙◌}
use Rattle.std.specs.List.{remove, slice_get}
use Rattle.std.proofs.lemmas.Bool.{not-true, both_ways, cases_eq}
use Rattle.circuit_model.specs.declared.model.Cell.{Cell}
use Rattle.circuit_model.specs.declared.model.Fact.{Fact}
use Rattle.circuit_model.specs.declared.model.Assumption.{Assumption}
use Rattle.circuit_model.specs.declared.model.Assumption.TheVariants.{Reading}
use Rattle.circuit_model.specs.Present.{PresentView, is_cell_before, is_fact}
use Rattle.circuit_model.specs.Stock.{Stock}
use Rattle.environment_sets.specs.declared.environment.TheConstants.{SLOTS}
use Rattle.environment_sets.specs.Lists.{IsIn}
use Rattle.environment_sets.proofs.Membership.{IsIn-right, IsIn-slice_get}
use Rattle.environment_sets.proofs.Listings.{IsIn-filter, IsIn-kept}
use Rattle.label_engine.specs.Engine.{Forgets}
use Rattle.standing_view.specs.Standing.{Stands, order_of, place_among, with_reading_at, without_reading_at}
use Rattle.standing_view.specs.View.{StandsFor, IsParked, IsReadingOf, without_fact}
use Rattle.standing_view.specs.Laws.{AReadingIsParked, AParkedReadingStands, AParkedReadingIsForgotten}
use Rattle.standing_view.proofs.Growing.{some_is_not_none, same_reading, one_reading_more, parts_as_before, slots_as_before}
use Rattle.standing_view.proofs.Inserted.{in_inserted, kept_inserted, there_inserted}
use Rattle.circuit_model.proofs.SameCells.{fact_itself, other_fact}
use Rattle.circuit_model.proofs.Presents.{IsIn-front_remove, map-remove}
use Rattle.standing_view.proofs.Removed.{rising_removed, order_removed, this_or_removed, not_in_removed}

-- another reading than this one is among the others
pub among_others : (f g : Fact) (readings : List Fact) → IsIn readings g → (f ≡ g → ⊥) → IsIn (without_fact f readings) g
among_others f g readings h ne = IsIn-kept (λ g. not (is_fact f g)) readings g h (other_fact f g ne)

pub record IsOther (f g : Fact) (readings : List Fact) : Type 0 where
  pub listed : IsIn readings g
  pub other : f ≡ g → ⊥

pub is_other : (f g : Fact) (readings : List Fact) → IsIn (without_fact f readings) g → IsOther f g readings
is_other f g readings h =
    let r : IsIn readings g × IsTrue (not (is_fact f g)) = IsIn-filter (λ g. not (is_fact f g)) readings g h in
    let no : is_fact f g ≡ false = not-true (is_fact f g) r.1 in
    record { listed = r.0; other = λ e. both_ways (is_fact f g) no (subst (λ (h : Fact). is_fact f h ≡ true) e (fact_itself f)) }

pub none_is_not_some : (o : Option Assumption) → o ≡ None → IsSome o → ⊥
none_is_not_some None e h = cc
none_is_not_some (Some a) e h = cc

-- the slot of the reading at a place
slot_at : (S : Stock ℕ) (slots : List ℕ) (fs : List Fact) → map S slots ≡ map (λ f. Some (Reading f)) fs → (i : ℕ) (f : Fact) → slice_get fs i ≡ Some f → (k : ℕ) × (slice_get slots i ≡ Some k) × (S k ≡ Some (Reading f))
slot_at S slots [] same i f at = cc
slot_at S [] (g ∷ fs) same i f at = cc
slot_at S (k ∷ slots) (g ∷ fs) same zero f at = let here : S k ≡ Some (Reading g) = cc in let g_is : g ≡ f = cc in (k, refl, here ∙ ap (λ (f : Fact). Some (Reading f)) g_is)
slot_at S (k ∷ slots) (g ∷ fs) same (suc i) f at = let tail : map S slots ≡ map (λ f. Some (Reading f)) fs = cc in slot_at S slots fs tail i f at

module _ (S : Stock ℕ) (st : Stands) (P : PresentView) (parked : List Fact) (r : StandsFor S st P parked) where
  module _ (place : ℕ) (f : Fact) (k : ℕ) (at : slice_get st.slots place ≡ Some k) (is : S k ≡ Some (Reading f)) where
    abbrev Less : Stands
    Less = without_reading_at place st

    parked_now : (g : Fact) → IsIn (f ∷ parked) g → IsParked S Less g
    parked_now g (inl e) = subst (λ (g : Fact). IsParked S Less g) e (record {
      slot = k;
      below = r.order.below k (IsIn-right st.parts st.slots k (IsIn-slice_get st.slots place k at));
      remembered = is;
      apart = not_in_removed st.parts st.slots place k r.order.distinct at;
    })
    parked_now g (inr h) =
        let p : IsParked S st g = r.each_parked g h in
        record { slot = p.slot; below = p.below; remembered = p.remembered; apart = λ h. p.apart (IsIn-front_remove st.parts st.slots place p.slot h) }

    stands_or_parked : (j : ℕ) → IsSome (S j) → IsIn (order_of Less) j ⊎ IsReadingOf S (f ∷ parked) j
    stands_or_parked j h = elim (r.all j h) as (λ _. IsIn (order_of Less) j ⊎ IsReadingOf S (f ∷ parked) j) [
      | inl l ↦ elim (this_or_removed st.parts st.slots place k j at l) as (λ _. IsIn (order_of Less) j ⊎ IsReadingOf S (f ∷ parked) j) [
        | inl e ↦ inr (record { reading = f; listed = inl refl; remembered = subst (λ (i : ℕ). S i ≡ Some (Reading f)) e is })
        | inr l ↦ inl l
      ]
      | inr p ↦ inr (record { reading = p.reading; listed = inr p.listed; remembered = p.remembered })
    ]

  -- a parked reading does not stand
  parked_apart : (f : Fact) (slot : ℕ) → IsIn parked f → S slot ≡ Some (Reading f) → (slot < SLOTS) × (IsIn (order_of st) slot → ⊥)
  parked_apart f slot h at =
      let p : IsParked S st f = r.each_parked f h in
      let e : p.slot ≡ slot = r.once p.slot slot f p.remembered at in
      (subst (λ (k : ℕ). k < SLOTS) e p.below, λ l. p.apart (subst (λ (k : ℕ). IsIn (order_of st) k) (sym e) l))

  -- a reading at another slot is another one
  another_reading : (f g : Fact) (slot k : ℕ) → S slot ≡ Some (Reading f) → S k ≡ Some (Reading g) → k ≢ slot → f ≡ g → ⊥
  another_reading f g slot k at here ne e = ne (r.once k slot f (here ∙ ap (λ (g : Fact). Some (Reading g)) (sym e)) at)

  -- another reading is at another slot
  another_slot : (f g : Fact) (slot k : ℕ) → S slot ≡ Some (Reading f) → S k ≡ Some (Reading g) → (f ≡ g → ⊥) → k ≢ slot
  another_slot f g slot k at here ne e = ne (same_reading f g (sym at ∙ (ap S (sym e) ∙ here)))

pub a_reading_is_parked : AReadingIsParked
a_reading_is_parked S st P parked place f r at =
    let v : Fact → Option Assumption = λ f. Some (Reading f) in
    let k : (k : ℕ) × (slice_get st.slots place ≡ Some k) × (S k ≡ Some (Reading f)) = slot_at S st.slots P.readings r.measurements place f at in
    record {
      components = r.components;
      measured = ap (λ (cells : List Cell). remove cells place) r.measured ∙ sym (map-remove (λ (f : Fact). f.cell) P.readings place);
      measurements = map-remove S st.slots place ∙ (ap (λ (xs : List (Option Assumption)). remove xs place) r.measurements ∙ sym (map-remove v P.readings place));
      order = order_removed SLOTS st.parts st.slots place r.order;
      rising = rising_removed (λ c d. IsTrue (is_cell_before c d)) st.cells place r.rising;
      each_parked = parked_now S st P parked r place f k.0 k.1 k.2;
      once = r.once;
      all = stands_or_parked S st P parked r place f k.0 k.1 k.2;
    }

pub a_parked_reading_stands : AParkedReadingStands
a_parked_reading_stands S st P parked slot f r free h at =
    let apart : (slot < SLOTS) × (IsIn (order_of st) slot → ⊥) = parked_apart S st P parked r f slot h at in
    one_reading_more S S st P parked r (λ k _. refl) slot f apart.0 at apart.1 free (without_fact f parked) each_parked r.once all
  where
    each_parked : (g : Fact) → IsIn (without_fact f parked) g → IsParked S (with_reading_at slot f.cell st) g
    each_parked g l =
        let other : IsOther f g parked = is_other f g parked l in
        let p : IsParked S st g = r.each_parked g other.listed in
        let ne : p.slot ≢ slot = another_slot S st P parked r f g slot p.slot at p.remembered other.other in
        record {
          slot = p.slot;
          below = p.below;
          remembered = p.remembered;
          apart = λ l. elim (in_inserted st.parts st.slots (place_among f.cell st.cells) slot p.slot l) as (λ _. ⊥) [ inl e ↦ ne (sym e) | inr l ↦ p.apart l ];
        }

    all : (k : ℕ) → IsSome (S k) → IsIn (order_of (with_reading_at slot f.cell st)) k ⊎ IsReadingOf S (without_fact f parked) k
    all k some = elim (cases_eq k slot) as (λ _. IsIn (order_of (with_reading_at slot f.cell st)) k ⊎ IsReadingOf S (without_fact f parked) k) [
      | inl e ↦ inl (subst (λ (k : ℕ). IsIn (order_of (with_reading_at slot f.cell st)) k) (sym e) (there_inserted st.parts st.slots (place_among f.cell st.cells) slot))
      | inr ne ↦ elim (r.all k some) as (λ _. IsIn (order_of (with_reading_at slot f.cell st)) k ⊎ IsReadingOf S (without_fact f parked) k) [
        | inl l ↦ inl (kept_inserted st.parts st.slots (place_among f.cell st.cells) slot k l)
        | inr p ↦ inr (record { reading = p.reading; listed = among_others f p.reading parked p.listed (another_reading S st P parked r f p.reading slot k at p.remembered ne); remembered = p.remembered })
      ]
    ]

-- what is remembered now was remembered before, at another slot
pub remembered_before : (S R : Stock ℕ) (slot : ℕ) (what : Assumption) → Forgets S slot what R → (k : ℕ) (a : Assumption) → R k ≡ Some a → (k ≢ slot) × (S k ≡ Some a)
remembered_before S R slot what m k a at =
    let ne : k ≢ slot = λ e. some_is_not_none a (sym at ∙ (ap R e ∙ m.free)) in
    (ne, sym (m.others k ne) ∙ at)

pub a_parked_reading_is_forgotten : AParkedReadingIsForgotten
a_parked_reading_is_forgotten S R st P parked slot f r h m =
    let apart : (slot < SLOTS) × (IsIn (order_of st) slot → ⊥) = parked_apart S st P parked r f slot h m.there in
    let as_before : (k : ℕ) → IsIn (order_of st) k → R k ≡ S k = λ k l. m.others k (λ e. apart.1 (subst (λ (j : ℕ). IsIn (order_of st) j) e l)) in
    record {
      components = parts_as_before S R st P parked r as_before ∙ r.components;
      measured = r.measured;
      measurements = slots_as_before S R st P parked r as_before ∙ r.measurements;
      order = r.order;
      rising = r.rising;
      each_parked = each_parked;
      once = λ k l g a b. r.once k l g (remembered_before S R slot (Reading f) m k (Reading g) a).1 (remembered_before S R slot (Reading f) m l (Reading g) b).1;
      all = all;
    }
  where
    each_parked : (g : Fact) → IsIn (without_fact f parked) g → IsParked R st g
    each_parked g l =
        let other : IsOther f g parked = is_other f g parked l in
        let p : IsParked S st g = r.each_parked g other.listed in
        let ne : p.slot ≢ slot = another_slot S st P parked r f g slot p.slot m.there p.remembered other.other in
        record { slot = p.slot; below = p.below; remembered = m.others p.slot ne ∙ p.remembered; apart = p.apart }

    all : (k : ℕ) → IsSome (R k) → IsIn (order_of st) k ⊎ IsReadingOf R (without_fact f parked) k
    all k some =
        let ne : k ≢ slot = λ e. none_is_not_some (R k) (ap R e ∙ m.free) some in
        elim (r.all k (subst (λ (o : Option Assumption). IsSome o) (m.others k ne) some)) as (λ _. IsIn (order_of st) k ⊎ IsReadingOf R (without_fact f parked) k) [
          | inl l ↦ inl l
          | inr p ↦ inr (record {
            reading = p.reading;
            listed = among_others f p.reading parked p.listed (another_reading S st P parked r f p.reading slot k m.there p.remembered ne);
            remembered = m.others k ne ∙ p.remembered;
          })
        ]
