-- What stands for a present, and the readings that are parked beside it.
use Rattle.std.proofs.Common.{◌≡◌, ◌↔◌, ℕ, ◌⊎◌, inl, inr, List, [], ◌∷◌, map, Option, Some, None, refl, sym, ap, subst, ◌∙◌}
use Rattle.std.specs.List.{slice_get}
use Rattle.circuit_model.specs.Closure.{fact}
use Rattle.circuit_model.specs.declared.model.Assumption.{Assumption}
use Rattle.circuit_model.specs.declared.model.Assumption.TheVariants.{Part, Reading}
use Rattle.circuit_model.specs.declared.model.Cell.{Cell}
use Rattle.circuit_model.specs.declared.model.Fact.{Fact}
use Rattle.circuit_model.specs.declared.present.Component.{Component}
use Rattle.circuit_model.specs.Present.{PresentView, reading_in, without_standing}
use Rattle.circuit_model.specs.Stock.{Stock}
use Rattle.environment_sets.specs.Lists.{IsIn}
use Rattle.environment_sets.proofs.Membership.{IsIn-append}
use Rattle.assumption_slots.specs.Slots.{stock}
use Rattle.standing_view.specs.Standing.{Stands, order_of, AreInOrder, without_reading_at}
use Rattle.standing_view.specs.View.{StandsFor, IsParked, IsReadingOf}
use Rattle.standing_view.proofs.Growing.{is_some, no_other, same_reading}
use Rattle.standing_view.proofs.Inserted.{not_measured}
use Rattle.standing_view.proofs.Parked.{a_reading_is_parked}
use Rattle.standing_changes.specs.declared.remembered.Remembered.{Remembered}
use Rattle.standing_changes.specs.Remembered.{StandsWith, IsRemembered}
use Rattle.standing_changes.proofs.Alike.{AreAlike}
use Rattle.standing_changes.proofs.Readings.{IsReadingAt, cells_of, reading_place, cell_listed, not_listed}

no_part : (f : Fact) (c : Component) → Some (Reading f) ≡ Some (Part c.part) → ⊥
no_part f c e = cc

-- a slot of a list has what the element beside it has
beside_one : {X : Type 0} (S : Stock ℕ) (v : X → Option Assumption) (slots : List ℕ) (xs : List X) → map S slots ≡ map v xs → (k : ℕ) → IsIn slots k → (x : X) × IsIn xs x × (S k ≡ v x)
beside_one S v [] xs same k h = absurd h
beside_one S v (j ∷ slots) [] same k h = absurd (cc)
beside_one S v (j ∷ slots) (x ∷ xs) same k (inl e) = let here : S j ≡ v x = cc in (x, inl refl, subst (λ (i : ℕ). S i ≡ v x) e here)
beside_one {X} S v (j ∷ slots) (x ∷ xs) same k (inr h) =
    let tail : map S slots ≡ map v xs = cc in
    let r : (x : X) × IsIn xs x × (S k ≡ v x) = beside_one S v slots xs tail k h in
    (r.0, inr r.1, r.2)

-- an element of a list has a slot beside it
slot_beside : {X : Type 0} (S : Stock ℕ) (v : X → Option Assumption) (slots : List ℕ) (xs : List X) → map S slots ≡ map v xs → (x : X) → IsIn xs x → (k : ℕ) × (S k ≡ v x)
slot_beside S v slots [] same x h = absurd h
slot_beside S v [] (y ∷ xs) same x h = absurd (cc)
slot_beside S v (j ∷ slots) (y ∷ xs) same x (inl e) = let here : S j ≡ v y = cc in (j, here ∙ ap v e)
slot_beside S v (j ∷ slots) (y ∷ xs) same x (inr h) = let tail : map S slots ≡ map v xs = cc in slot_beside S v slots xs tail x h

module _ (S : Stock ℕ) (st : Stands) (P : PresentView) where
  -- what is parked is told by its elements
  pub alike_parked : (p q : List Fact) → AreAlike p q → StandsFor S st P p → StandsFor S st P q
  alike_parked p q same r = record {
    components = r.components;
    measured = r.measured;
    measurements = r.measurements;
    order = r.order;
    rising = r.rising;
    each_parked = λ f l. r.each_parked f ((same f).1 l);
    once = r.once;
    all = λ k some. elim (r.all k some) as (λ _. IsIn (order_of st) k ⊎ IsReadingOf S q k) [
      | inl l ↦ inl l
      | inr m ↦ inr (record { reading = m.reading; listed = (same m.reading).0 m.listed; remembered = m.remembered })
    ];
  }

  -- other presents with the same parts of components and the same measurements
  pub alike_presents : (Q : PresentView) (parked : List Fact) → map (λ c. Some (Part c.part)) Q.parts ≡ map (λ c. Some (Part c.part)) P.parts → Q.readings ≡ P.readings → StandsFor S st P parked → StandsFor S st Q parked
  alike_presents Q parked parts readings r = record {
    components = r.components ∙ sym parts;
    measured = r.measured ∙ ap (map (λ f. f.cell)) (sym readings);
    measurements = r.measurements ∙ ap (map (λ f. Some (Reading f))) (sym readings);
    order = r.order;
    rising = r.rising;
    each_parked = r.each_parked;
    once = r.once;
    all = r.all;
  }

  module _ (parked : List Fact) (r : StandsFor S st P parked) where
    -- a reading that is remembered stands or is parked
    pub stands_or_parked : (f : Fact) (k : ℕ) → S k ≡ Some (Reading f) → IsIn P.readings f ⊎ IsIn parked f
    stands_or_parked f k at = elim (r.all k (is_some (S k) (Reading f) at)) as (λ _. IsIn P.readings f ⊎ IsIn parked f) [
      | inl l ↦ elim (IsIn-append st.parts st.slots k l) as (λ _. IsIn P.readings f ⊎ IsIn parked f) [
        | inl part ↦
            let c : (c : Component) × IsIn P.parts c × (S k ≡ Some (Part c.part)) = beside_one S (λ (c : Component). Some (Part c.part)) st.parts P.parts r.components k part in
            absurd (no_part f c.0 (sym at ∙ c.2))
        | inr reading ↦
            let g : (g : Fact) × IsIn P.readings g × (S k ≡ Some (Reading g)) = beside_one S (λ (g : Fact). Some (Reading g)) st.slots P.readings r.measurements k reading in
            inl (subst (λ (g : Fact). IsIn P.readings g) (same_reading g.0 f (sym g.2 ∙ at)) g.1)
      ]
      | inr m ↦ inr (subst (λ (g : Fact). IsIn parked g) (same_reading m.reading f (sym m.remembered ∙ at)) m.listed)
    ]

    -- and one that stands or is parked is remembered
    pub remembered_somewhere : (f : Fact) → IsIn P.readings f ⊎ IsIn parked f → (k : ℕ) × (S k ≡ Some (Reading f))
    remembered_somewhere f h = elim h as (λ _. (k : ℕ) × (S k ≡ Some (Reading f))) [
      | inl l ↦ slot_beside S (λ (g : Fact). Some (Reading g)) st.slots P.readings r.measurements f l
      | inr l ↦ let p : IsParked S st f = r.each_parked f l in (p.slot, p.remembered)
    ]

    -- a reading that is remembered, of a cell that is not measured, is parked
    pub is_parked : (f : Fact) → reading_in P.readings f.cell ≡ None → (k : ℕ) → S k ≡ Some (Reading f) → IsIn parked f
    is_parked f free k at = elim (r.all k (is_some (S k) (Reading f) at)) as (λ _. IsIn parked f) [
      | inl l ↦ absurd (no_other S st P parked r f free k at l)
      | inr m ↦ subst (λ (g : Fact). IsIn parked g) (same_reading m.reading f (sym m.remembered ∙ at)) m.listed
    ]

    -- a reading that is remembered nowhere is not parked
    pub not_parked : (f : Fact) → ((k : ℕ) → S k ≡ Some (Reading f) → ⊥) → IsIn parked f → ⊥
    not_parked f never l = let p : IsParked S st f = r.each_parked f l in never p.slot p.remembered

    -- a cell that is measured nowhere in what stands is not measured
    pub free_cell : (c : Cell) → (IsIn st.cells c → ⊥) → reading_in P.readings c ≡ None
    free_cell c out = not_listed P.readings c (λ h. out (subst (λ (cs : List Cell). IsIn cs c) (sym r.measured) h))

    -- and the other way round
    pub cell_free : (c : Cell) → reading_in P.readings c ≡ None → IsIn st.cells c → ⊥
    cell_free c free h = not_measured P.readings c free (subst (λ (cs : List Cell). IsIn cs c) r.measured h)

    -- a measured cell is measured in what stands
    pub cell_stands : (c : Cell) (v : ℕ) → reading_in P.readings c ≡ Some v → IsIn st.cells c
    cell_stands c v is = subst (λ (cs : List Cell). IsIn cs c) (sym r.measured) (cell_listed P.readings c v is)

    -- the measurement of a cell is parked
    pub cell_parked : (c : Cell) (v : ℕ) → reading_in P.readings c ≡ Some v → (place : ℕ) → slice_get st.cells place ≡ Some c → StandsFor S (without_reading_at place st) (without_standing c P) (fact c v ∷ parked)
    cell_parked c v is place at =
        let rising : AreInOrder (cells_of P.readings) = subst (λ (cs : List Cell). AreInOrder cs) r.measured r.rising in
        let at_place : slice_get (cells_of P.readings) place ≡ Some c = subst (λ (cs : List Cell). slice_get cs place ≡ Some c) r.measured at in
        let one : IsReadingAt P.readings c v place = reading_place P.readings c v rising place at_place is in
        let With : List Fact → Type 0 = λ readings. StandsFor S (without_reading_at place st) (record P { readings = readings }) (fact c v ∷ parked) in
        subst With one.rest (a_reading_is_parked S st P parked place (fact c v) r one.there)

-- what stands is the same whatever list has the parked readings
pub parked_alike : (r : Remembered) (s : PresentView) (p q : List Fact) → ((f : Fact) → IsIn p f ↔ IsIn q f) → StandsWith r s p → StandsWith r s q
parked_alike r s p q same h = alike_parked (stock r.engine.slots) r.standing s p q same h

-- what stands for a present stands for any other with the same parts of components and the same measurements
pub same_parts_and_readings_stand :
    (r : Remembered) (s t : PresentView) (parked : List Fact) → map (λ c. Some (Part c.part)) t.parts ≡ map (λ c. Some (Part c.part)) s.parts → t.readings ≡ s.readings
    → StandsWith r s parked → StandsWith r t parked
same_parts_and_readings_stand r s t parked parts readings h = alike_presents (stock r.engine.slots) r.standing s t parked parts readings h

-- what is remembered are the readings that stand and those that are parked
pub remembered_readings : (r : Remembered) (s : PresentView) (parked : List Fact) → StandsWith r s parked → (f : Fact) → IsRemembered r f ↔ (IsIn s.readings f ⊎ IsIn parked f)
remembered_readings r s parked h f = (
  (λ m. stands_or_parked (stock r.engine.slots) r.standing s parked h f m.0 m.1),
  remembered_somewhere (stock r.engine.slots) r.standing s parked h f,
)
