-- What is chosen of a set of slots.
use Rattle.std.proofs.Common.{◌≡◌, ℕ, zero, suc, ◌+◌, ◌<◌, ◌==◌, inl, inr, Bool, true, false, cond, IsTrue, List, [], ◌∷◌, ◌++◌, length, take, Some, refl, sym, ap, subst, ◌∙◌, arith, zero-add}
use Rattle.std.specs.List.{filter, list_any, slice_get, range_with_len}
use Rattle.std.proofs.lemmas.Bool.{or_cases, or_left, or_right, false≢true, eqb-true, eq-eqb}
use Rattle.std.proofs.lemmas.List.Elements.{filter-append}
use mathlib.Core.Path.{fun_ext}
use Rattle.circuit_model.specs.declared.model.Cell.{Cell}
use Rattle.circuit_model.specs.Chosen.{places_at}
use Rattle.circuit_model.specs.Diagnoses.{Place, AtPart, AtCell}
use Rattle.circuit_model.specs.Present.{is_cell, is_cell_before}
use Rattle.circuit_model.proofs.SameCells.{same_cell, cell_itself}
use Rattle.circuit_model.proofs.Renaming.{passes-elim}
use Rattle.environment_sets.specs.Sets.{Set}
use Rattle.environment_sets.specs.Lists.{IsIn}
use Rattle.environment_sets.proofs.Listings.{IsIn-filter, IsIn-kept}
use Rattle.environment_sets.proofs.Membership.{IsIn-slice_get, same_bool}
use Rattle.environment_sets.proofs.Ranges.{in_range, to_range, range_more}
use Rattle.standing_view.specs.Standing.{Stands, AreInOrder}
use Rattle.standing_view.specs.View.{places, slot_of}
use Rattle.standing_view.specs.Positions.{positions, positions_in_order}
use Rattle.standing_view.specs.Choosing.{has_cell}
use Rattle.standing_view.proofs.Aligned.{StandBeside, finds}
use Rattle.standing_view.proofs.Aligned as aligned
use Rattle.standing_view.proofs.PartSets.{positions_are_in_range}

filter_one : {X : Type 0} (p : X → Bool) (x : X) → filter p (x ∷ []) ≡ cond (p x) (x ∷ []) []
filter_one p x = elim (p x) as (λ b. p x ≡ b → filter p (x ∷ []) ≡ cond b (x ∷ []) []) [ true ↦ λ e. rw e refl | false ↦ λ e. rw e refl ] refl

-- ---- positions

module _ (p : ℕ → Bool) (n : ℕ) where
  pub positions_more : (list : List ℕ) (chosen : Bool) → list ≡ filter p (range_with_len 0 n) ++ cond chosen (n ∷ []) [] → chosen ≡ p n → list ≡ filter p (range_with_len 0 (n + 1))
  positions_more list chosen is same =
      is
      ∙ (ap (λ (b : Bool). filter p (range_with_len 0 n) ++ cond b (n ∷ []) []) same
      ∙ (ap (λ (xs : List ℕ). filter p (range_with_len 0 n) ++ xs) (sym (filter_one p n)) ∙ (sym (filter-append p (range_with_len 0 n) (n ∷ [])) ∙ ap (filter p) (sym (range_more n)))))

  pub positions_below : (i : ℕ) → IsIn (filter p (range_with_len 0 n)) i → i < n
  positions_below i h = let low : i < 0 + n = (in_range 0 n i (IsIn-filter p (range_with_len 0 n) i h).0).1 in omega arith

any_number : (xs : List ℕ) (i : ℕ) → IsTrue (list_any (λ j. j == i) xs) → IsIn xs i
any_number [] i h = absurd (false≢true h)
any_number (x ∷ xs) i h = elim (or_cases (x == i) (list_any (λ j. j == i) xs) h) as (λ _. IsIn (x ∷ xs) i) [ inl here ↦ inl (eqb-true x i here) | inr later ↦ inr (any_number xs i later) ]

number_any : (xs : List ℕ) (i : ℕ) → IsIn xs i → IsTrue (list_any (λ j. j == i) xs)
number_any [] i h = absurd h
number_any (x ∷ xs) i (inl e) = or_left (x == i) (list_any (λ j. j == i) xs) (subst (λ (k : ℕ). IsTrue (k == i)) (sym e) (eq-eqb i i refl))
number_any (x ∷ xs) i (inr h) = or_right (x == i) (list_any (λ j. j == i) xs) (number_any xs i h)

any_cell : (xs : List Cell) (c : Cell) → IsTrue (list_any (λ d. is_cell d c) xs) → IsIn xs c
any_cell [] c h = absurd (false≢true h)
any_cell (x ∷ xs) c h = elim (or_cases (is_cell x c) (list_any (λ d. is_cell d c) xs) h) as (λ _. IsIn (x ∷ xs) c) [ inl here ↦ inl (same_cell x c here) | inr later ↦ inr (any_cell xs c later) ]

cell_any : (xs : List Cell) (c : Cell) → IsIn xs c → IsTrue (list_any (λ d. is_cell d c) xs)
cell_any [] c h = absurd h
cell_any (x ∷ xs) c (inl e) = or_left (is_cell x c) (list_any (λ d. is_cell d c) xs) (subst (λ (k : Cell). IsTrue (is_cell k c)) (sym e) (cell_itself c))
cell_any (x ∷ xs) c (inr h) = or_right (is_cell x c) (list_any (λ d. is_cell d c) xs) (cell_any xs c h)

-- the lists stand for the places
pub chosen_are : (st : Stands) (E : Set ℕ) (parts : List ℕ) (cells : List Cell) → parts ≡ filter (positions st E) (positions_in_order st) → cells ≡ filter (has_cell st E) st.cells → places_at parts cells ≡ places st E
chosen_are st E parts cells same_parts same_cells = fun_ext each
  where
    each : (m : Place) → places_at parts cells m ≡ places st E m
    each (AtPart i) = same_bool (places_at parts cells (AtPart i)) (positions st E i)
        (λ h. (IsIn-filter (positions st E) (positions_in_order st) i (subst (λ (xs : List ℕ). IsIn xs i) same_parts (any_number parts i h))).1)
        (λ h.
        let there : IsIn (positions_in_order st) i = subst (IsIn (positions_in_order st)) (zero-add i) (to_range 0 (length st.parts) i (positions_are_in_range st E i h)) in
        number_any parts i (subst (λ (xs : List ℕ). IsIn xs i) (sym same_parts) (IsIn-kept (positions st E) (positions_in_order st) i there h)))
    each (AtCell c) = same_bool (places_at parts cells (AtCell c)) (has_cell st E c)
        (λ h. (IsIn-filter (has_cell st E) st.cells c (subst (λ (xs : List Cell). IsIn xs c) same_cells (any_cell cells c h))).1)
        (λ h.
        let k = passes-elim E (slot_of st (AtCell c)) h in
        let d : (d : Cell) × StandBeside st.cells st.slots d k.0 × IsTrue (is_cell d c) = finds (λ d. is_cell d c) st.cells st.slots k.0 k.1 in
        let there : IsIn st.cells c = subst (IsIn st.cells) (same_cell d.0 c d.2) (aligned.in_first st.cells st.slots d.0 k.0 d.1) in
        cell_any cells c (subst (λ (xs : List Cell). IsIn xs c) (sym same_cells) (IsIn-kept (has_cell st E) st.cells c there h)))

-- ---- cells

module _ (p : Cell → Bool) (cells : List Cell) (n : ℕ) (c : Cell) (at : slice_get cells n ≡ Some c) where
  take_push : (xs : List Cell) (i : ℕ) → slice_get xs i ≡ Some c → take (suc i) xs ≡ take i xs ++ c ∷ []
  take_push [] i e = cc
  take_push (x ∷ xs) zero e = ap (λ (d : Cell). d ∷ []) (cc)
  take_push (x ∷ xs) (suc i) e = ap (λ (ys : List Cell). x ∷ ys) (take_push xs i e)

  pub cells_more : (list : List Cell) (chosen : Bool) → list ≡ filter p (take n cells) ++ cond chosen (c ∷ []) [] → chosen ≡ p c → list ≡ filter p (take (n + 1) cells)
  cells_more list chosen is same =
      let one : n + 1 ≡ suc n = omega arith in
      is
      ∙ (ap (λ (b : Bool). filter p (take n cells) ++ cond b (c ∷ []) []) same
      ∙ (ap (λ (xs : List Cell). filter p (take n cells) ++ xs) (sym (filter_one p c)) ∙ (sym (filter-append p (take n cells) (c ∷ [])) ∙ ap (filter p) (sym (ap (λ (m : ℕ). take m cells) one ∙ take_push cells n at)))))

  before_at : (xs : List Cell) (i : ℕ) → AreInOrder xs → slice_get xs i ≡ Some c → (d : Cell) → IsIn (take i xs) d → IsTrue (is_cell_before d c)
  before_at [] i up e d h = cc
  before_at (x ∷ xs) zero up e d h = absurd h
  before_at (x ∷ xs) (suc i) up e d (inl same) = subst (λ (k : Cell). IsTrue (is_cell_before k c)) same (up.0 c (IsIn-slice_get xs i c e))
  before_at (x ∷ xs) (suc i) up e d (inr h) = before_at xs i up.1 e d h

  pub cells_before : AreInOrder cells → (d : Cell) → IsIn (filter p (take n cells)) d → IsTrue (is_cell_before d c)
  cells_before up d h = before_at cells n up at d (IsIn-filter p (take n cells) d h).0
