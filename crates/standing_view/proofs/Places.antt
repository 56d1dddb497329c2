-- The slots that stand, and the places of a present.
use Rattle.std.proofs.Common.{◌≡◌, ℕ, zero, suc, ◌+◌, inl, inr, true, ◌==◌, IsTrue, true≢false, List, [], ◌∷◌, length, map, Some, refl, sym, ap, ap₂, subst, ◌∙◌, arith, zero-add}
use Rattle.std.specs.List.{slice_get, range_with_len}
use Rattle.std.proofs.lemmas.Bool.{or_cases, or_right, eqb-true, eq-eqb}
use Rattle.std.proofs.lemmas.Bool.Decides.{nat_tests}
use Rattle.std.proofs.lemmas.List.{length-map, length-append}
use Rattle.std.proofs.lemmas.List.FromFn.{length-map-range_with_len}
use Rattle.circuit_model.specs.declared.model.Cell.{Cell}
use Rattle.circuit_model.proofs.SameCells.{same_cell, cell_itself, not_before_itself}
use Rattle.circuit_model.specs.Diagnoses.{Place, AtPart, AtCell}
use Rattle.circuit_model.specs.Present.{is_cell, is_cell_before}
use Rattle.environment_sets.specs.Lists.{IsIn, AreDistinct}
use Rattle.standing_view.specs.Standing.{Stands, order_of, is_among, AreInOrder}
use Rattle.circuit_model.specs.Whole.{places_in_order}
use Rattle.standing_view.specs.View.{slot_of, place_of}
use Rattle.standing_view.proofs.Aligned.{StandBeside, left_or_right, on_left, on_right, finds, is_found}

-- cells in order are distinct
pub ordered_are_distinct : (cells : List Cell) → AreInOrder cells → AreDistinct cells
ordered_are_distinct [] h = tt
ordered_are_distinct (c ∷ cells) h =
    ((λ d at e. not_before_itself c (subst (λ (d : Cell). is_cell_before c d ≡ true) (sym e) (h.0 d at))), ordered_are_distinct cells h.1)

pub among_listed : (xs : List ℕ) (k : ℕ) → IsTrue (is_among xs k) → IsIn xs k
among_listed [] k h = absurd (true≢false (sym h))
among_listed (x ∷ xs) k h = elim (or_cases (k == x) (is_among xs k) h) as (λ _. IsIn (x ∷ xs) k) [ inl here ↦ inl (sym (eqb-true k x here)) | inr later ↦ inr (among_listed xs k later) ]

pub listed_among : (xs : List ℕ) (k : ℕ) → IsIn xs k → IsTrue (is_among xs k)
listed_among [] k h = absurd h
listed_among (x ∷ xs) k (inl e) = let here : (k == x) ≡ true = grind (arith, nat_tests) in rw here refl
listed_among (x ∷ xs) k (inr h) = or_right (k == x) (is_among xs k) (listed_among xs k h)

pub length-places : (n : ℕ) (cells : List Cell) → length (places_in_order n cells) ≡ n + length cells
length-places n cells = length-append (map AtPart (range_with_len 0 n)) (map AtCell cells) ∙ ap₂ (λ (i j : ℕ). i + j) (length-map-range_with_len AtPart 0 n) (length-map cells AtCell)

-- positions
record IsPosition (xs : List ℕ) (i k : ℕ) (m : Place) : Type 0 where
  at : ℕ
  is : m ≡ AtPart (i + at)
  slot : slice_get xs at ≡ Some k

position_is : (xs : List ℕ) (i k : ℕ) (m : Place) → StandBeside xs (map AtPart (range_with_len i (length xs))) k m → IsPosition xs i k m
position_is [] i k m h = absurd h
position_is (x ∷ xs) i k m (inl e) = let n : i ≡ i + 0 = omega arith in record { at = 0; is = sym e.1 ∙ ap AtPart n; slot = ap Some e.0 }
position_is (x ∷ xs) i k m (inr h) =
    let r : IsPosition xs (i + 1) k m = position_is xs (i + 1) k m h in
    let n : (i + 1) + r.at ≡ i + suc r.at = omega arith in
    record { at = suc r.at; is = r.is ∙ ap AtPart n; slot = r.slot }

position_stands : (xs : List ℕ) (i j k : ℕ) → slice_get xs j ≡ Some k → StandBeside xs (map AtPart (range_with_len i (length xs))) k (AtPart (i + j))
position_stands [] i j k e = cc
position_stands (x ∷ xs) i zero k e = let same : x ≡ k = cc in let n : i ≡ i + 0 = omega arith in inl (same, ap AtPart n)
position_stands (x ∷ xs) i (suc j) k e =
    let n : (i + 1) + j ≡ i + suc j = omega arith in
    inr (subst (λ (p : ℕ). StandBeside xs (map AtPart (range_with_len (i + 1) (length xs))) k (AtPart p)) n (position_stands xs (i + 1) j k e))

-- cells
record IsCellOf (cells : List Cell) (slots : List ℕ) (k : ℕ) (m : Place) : Type 0 where
  cell : Cell
  is : m ≡ AtCell cell
  beside : StandBeside cells slots cell k

cell_is : (slots : List ℕ) (cells : List Cell) (k : ℕ) (m : Place) → StandBeside slots (map AtCell cells) k m → IsCellOf cells slots k m
cell_is [] cells k m h = absurd h
cell_is (x ∷ slots) [] k m h = absurd h
cell_is (x ∷ slots) (c ∷ cells) k m (inl e) = record { cell = c; is = sym e.1; beside = inl (refl, e.0) }
cell_is (x ∷ slots) (c ∷ cells) k m (inr h) = let r : IsCellOf cells slots k m = cell_is slots cells k m h in record { cell = r.cell; is = r.is; beside = inr r.beside }

cell_stands : (cells : List Cell) (slots : List ℕ) (c : Cell) (k : ℕ) → StandBeside cells slots c k → StandBeside slots (map AtCell cells) k (AtCell c)
cell_stands [] slots c k h = absurd h
cell_stands (d ∷ cells) [] c k h = absurd h
cell_stands (d ∷ cells) (x ∷ slots) c k (inl e) = inl (e.1, ap AtCell e.0)
cell_stands (d ∷ cells) (x ∷ slots) c k (inr h) = inr (cell_stands cells slots c k h)

module _ (st : Stands) (rising : AreInOrder st.cells) where
  module _ (k : ℕ) (m : Place) where
    -- the slot of what stands beside it in the order
    pub slot_is : StandBeside (order_of st) (places_in_order (length st.parts) st.cells) k m → slot_of st m ≡ Some k
    slot_is h =
        elim (left_or_right st.slots (map AtCell st.cells) st.parts (map AtPart (range_with_len 0 (length st.parts))) (sym (length-map-range_with_len AtPart 0 (length st.parts))) k m h) as (λ _. slot_of st m ≡ Some k) [
          | inl l ↦
              let r : IsPosition st.parts 0 k m = position_is st.parts 0 k m l in
              let at : m ≡ AtPart r.at = r.is ∙ ap AtPart (zero-add r.at) in
              subst (λ (p : Place). slot_of st p ≡ Some k) (sym at) r.slot
          | inr r ↦
              let r : IsCellOf st.cells st.slots k m = cell_is st.slots st.cells k m r in
              subst (λ (p : Place). slot_of st p ≡ Some k) (sym r.is) (is_found (λ d. is_cell d r.cell) st.cells st.slots r.cell k (ordered_are_distinct st.cells rising) (cell_itself r.cell) (λ d e. same_cell d r.cell e) r.beside)
        ]

  pub slot_stands : (k : ℕ) (m : Place) → slot_of st m ≡ Some k → StandBeside (order_of st) (places_in_order (length st.parts) st.cells) k m
  slot_stands k (AtPart i) e =
      on_left st.slots (map AtCell st.cells) st.parts (map AtPart (range_with_len 0 (length st.parts))) k (AtPart i)
      (subst (λ (p : ℕ). StandBeside st.parts (map AtPart (range_with_len 0 (length st.parts))) k (AtPart p)) (zero-add i) (position_stands st.parts 0 i k e))
  slot_stands k (AtCell c) e =
      let r : (d : Cell) × StandBeside st.cells st.slots d k × IsTrue (is_cell d c) = finds (λ d. is_cell d c) st.cells st.slots k e in
      on_right st.slots (map AtCell st.cells) st.parts (map AtPart (range_with_len 0 (length st.parts))) (sym (length-map-range_with_len AtPart 0 (length st.parts))) k (AtCell c)
      (cell_stands st.cells st.slots c k (subst (λ (d : Cell). StandBeside st.cells st.slots d k) (same_cell r.0 c r.2) r.1))

module _ (st : Stands) (distinct : AreDistinct (order_of st)) (k : ℕ) (m : Place) where
  -- the place of the slot that it stands beside
  pub place_is : StandBeside (order_of st) (places_in_order (length st.parts) st.cells) k m → place_of st k ≡ Some m
  place_is h = is_found (λ slot. slot == k) (order_of st) (places_in_order (length st.parts) st.cells) k m distinct (eq-eqb k k refl) (λ x e. eqb-true x k e) h

module _ (st : Stands) (k : ℕ) (m : Place) where
  pub place_stands : place_of st k ≡ Some m → StandBeside (order_of st) (places_in_order (length st.parts) st.cells) k m
  place_stands e =
      let r : (x : ℕ) × StandBeside (order_of st) (places_in_order (length st.parts) st.cells) x m × IsTrue (x == k) = finds (λ slot. slot == k) (order_of st) (places_in_order (length st.parts) st.cells) m e in
      subst (λ (x : ℕ). StandBeside (order_of st) (places_in_order (length st.parts) st.cells) x m) (eqb-true r.0 k r.2) r.1
