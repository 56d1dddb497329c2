-- The components and the measured cells of an environment, as lists in order.
use Rattle.std.proofs.Common.{◌≡◌, ℕ, zero, suc, ◌+◌, ◌<◌, [], ◌∷◌, ◌++◌, inl, inr, IsTrue, List, false, length, Some, slice_get, refl, sym, ap, subst, ◌∙◌, true≢false, arith}
use Rattle.std.proofs.lemmas.Bool.{cases_lt}
use Rattle.environment_sets.specs.Sets.{Set}
use Rattle.environment_sets.specs.Lists.{IsIn, IsRising}
use Rattle.environment_sets.proofs.Membership.{IsIn-append, IsIn-left, IsIn-right, IsIn-slice_get}
use Rattle.circuit_model.specs.declared.model.Cell.{Cell}
use Rattle.circuit_model.specs.declared.model.Fact.{Fact}
use Rattle.circuit_model.specs.Chosen.{places_at}
use Rattle.circuit_model.specs.Diagnoses.{Place, AtPart, AtCell}
use Rattle.circuit_model.specs.Present.{PresentView, IsLawful, is_cell_before}
use Rattle.circuit_model.proofs.Readings.{ComesBefore}
use Rattle.proof_check.proofs.Assumed.{position_chosen, cell_chosen}
use Rattle.plain_answers.specs.Closing.{ArePartsOf, AreCellsOf, IsOfPresent}
use Rattle.plain_answers.specs.Subsets.{IsPartOrCell}
use Rattle.plain_answers.proofs.Doubling.{wider_cell, last_or_before, in_stock, from_stock}

module _ (n : ℕ) (E : Set Place) (places : List ℕ) (old : ArePartsOf n E places) where
  -- one component more, which E has
  pub part_put : (new : List ℕ) → IsTrue (E (AtPart n)) → new ≡ places ++ n ∷ [] → ArePartsOf (n + 1) E new
  part_put new has is = subst (λ (ps : List ℕ). ArePartsOf (n + 1) E ps) (sym is) (λ k. (to k, from k)) where
    to : (k : ℕ) → IsIn (places ++ n ∷ []) k → (k < n + 1) × IsTrue (E (AtPart k))
    to k h = elim (IsIn-append places (n ∷ []) k h) as (λ _. (k < n + 1) × IsTrue (E (AtPart k))) [
      | inl there ↦ let r : (k < n) × IsTrue (E (AtPart k)) = (old k).0 there in let low : k < n = r.0 in (omega arith, r.1)
      | inr last ↦ elim last as (λ _. (k < n + 1) × IsTrue (E (AtPart k))) [
        | inl e ↦ (omega arith, subst (λ (k : ℕ). IsTrue (E (AtPart k))) e has)
        | inr none ↦ absurd none
      ]
    ]

    from : (k : ℕ) → (k < n + 1) × IsTrue (E (AtPart k)) → IsIn (places ++ n ∷ []) k
    from k h = elim (cases_lt k n) [
      | inl low ↦ IsIn-left places (n ∷ []) k ((old k).1 (low, h.1))
      | inr high ↦ let low : k < n + 1 = h.0 in let same : n ≡ k = omega arith in IsIn-right places (n ∷ []) k (inl same)
    ]

  -- one component more, which E has not
  pub part_passed : E (AtPart n) ≡ false → ArePartsOf (n + 1) E places
  part_passed lacks = λ k. (to k, from k) where
    to : (k : ℕ) → IsIn places k → (k < n + 1) × IsTrue (E (AtPart k))
    to k h = let r : (k < n) × IsTrue (E (AtPart k)) = (old k).0 h in let low : k < n = r.0 in (omega arith, r.1)

    from : (k : ℕ) → (k < n + 1) × IsTrue (E (AtPart k)) → IsIn places k
    from k h = elim (cases_lt k n) [
      | inl low ↦ (old k).1 (low, h.1)
      | inr high ↦
          let low : k < n + 1 = h.0 in let same : k ≡ n = omega arith in
          absurd (true≢false (sym h.1 ∙ (ap (λ (k : ℕ). E (AtPart k)) same ∙ lacks)))
    ]

-- of two elements of a list that rises, the first comes before the second
rising_at : (readings : List Fact) → IsRising ComesBefore readings → (j k : ℕ) (f g : Fact) → j < k → slice_get readings j ≡ Some f → slice_get readings k ≡ Some g → ComesBefore f g
rising_at [] rising j k f g low e h = cc
rising_at (r ∷ readings) rising zero zero f g low e h = absurd (omega arith)
rising_at (r ∷ readings) rising zero (suc k) f g low e h =
    let is : r ≡ f = cc in
    subst (λ (r : Fact). ComesBefore r g) is (rising.0 g (IsIn-slice_get readings k g h))
rising_at (r ∷ readings) rising (suc j) zero f g low e h = absurd (omega arith)
rising_at (r ∷ readings) rising (suc j) (suc k) f g low e h = rising_at readings rising.1 j k f g (omega arith) e h

module _ (s : PresentView) (lawful : IsLawful s) (n : ℕ) (f : Fact) (at : slice_get s.readings n ≡ Some f) (E : Set Place) (cells : List Cell) (old : AreCellsOf s n E cells) where
  -- what was put in comes before the next measurement
  pub cells_before : (c : Cell) → IsIn cells c → IsTrue (is_cell_before c f.cell)
  cells_before c h =
      let r : IsPartOrCell s n (AtCell c) = ((old c).0 h).0 in
      subst (λ (c : Cell). IsTrue (is_cell_before c f.cell)) r.4 (rising_at s.readings lawful.rising r.0 n r.1 f r.2 r.3 at)

  here : IsPartOrCell s (n + 1) (AtCell f.cell)
  here = (n, f, omega arith, at, refl)

  last_cell : (c : Cell) → AtCell c ≡ AtCell f.cell → f.cell ≡ c
  last_cell c e = cc

  -- one cell more, which E has
  pub cell_put : (new : List Cell) → IsTrue (E (AtCell f.cell)) → new ≡ cells ++ f.cell ∷ [] → AreCellsOf s (n + 1) E new
  cell_put new has is = subst (λ (cs : List Cell). AreCellsOf s (n + 1) E cs) (sym is) (λ c. (to c, from c)) where
    to : (c : Cell) → IsIn (cells ++ f.cell ∷ []) c → IsPartOrCell s (n + 1) (AtCell c) × IsTrue (E (AtCell c))
    to c h = elim (IsIn-append cells (f.cell ∷ []) c h) as (λ _. IsPartOrCell s (n + 1) (AtCell c) × IsTrue (E (AtCell c))) [
      | inl there ↦ let r : IsPartOrCell s n (AtCell c) × IsTrue (E (AtCell c)) = (old c).0 there in (wider_cell s lawful n f at (AtCell c) r.0, r.1)
      | inr last ↦ elim last as (λ _. IsPartOrCell s (n + 1) (AtCell c) × IsTrue (E (AtCell c))) [
        | inl e ↦ subst (λ (c : Cell). IsPartOrCell s (n + 1) (AtCell c) × IsTrue (E (AtCell c))) e (here, has)
        | inr none ↦ absurd none
      ]
    ]

    from : (c : Cell) → IsPartOrCell s (n + 1) (AtCell c) × IsTrue (E (AtCell c)) → IsIn (cells ++ f.cell ∷ []) c
    from c h = elim (last_or_before s lawful n f at (AtCell c) h.0) [
      | inl before ↦ IsIn-left cells (f.cell ∷ []) c ((old c).1 (before, h.1))
      | inr last ↦ IsIn-right cells (f.cell ∷ []) c (inl (last_cell c last))
    ]

  -- one cell more, which E has not
  pub cell_passed : E (AtCell f.cell) ≡ false → AreCellsOf s (n + 1) E cells
  cell_passed lacks = λ c. (to c, from c) where
    to : (c : Cell) → IsIn cells c → IsPartOrCell s (n + 1) (AtCell c) × IsTrue (E (AtCell c))
    to c h = let r : IsPartOrCell s n (AtCell c) × IsTrue (E (AtCell c)) = (old c).0 h in (wider_cell s lawful n f at (AtCell c) r.0, r.1)

    from : (c : Cell) → IsPartOrCell s (n + 1) (AtCell c) × IsTrue (E (AtCell c)) → IsIn cells c
    from c h = elim (last_or_before s lawful n f at (AtCell c) h.0) [
      | inl before ↦ (old c).1 (before, h.1)
      | inr last ↦ absurd (true≢false (sym h.1 ∙ (ap (λ (c : Cell). E (AtCell c)) (sym (last_cell c last)) ∙ lacks)))
    ]

-- none of no components, and none of no measurements
pub no_parts : (E : Set Place) → ArePartsOf 0 E []
no_parts E k = (λ h. absurd h, λ h. let low : k < 0 = h.0 in absurd (omega arith))

pub no_cells : (s : PresentView) (E : Set Place) → AreCellsOf s 0 E []
no_cells s E c = (λ h. absurd h, λ h. let r : IsPartOrCell s 0 (AtCell c) = h.0 in let low = r.2 in absurd (omega arith))

-- with all of them the lists have what E has of the present
pub of_present : (s : PresentView) → IsLawful s → (E : Set Place) (places : List ℕ) (cells : List Cell) → ArePartsOf (length s.parts) E places → AreCellsOf s (length s.readings) E cells → IsOfPresent s E (places_at places cells)
of_present s lawful E places cells parts readings (AtPart k) = (
  λ h. let r : (k < length s.parts) × IsTrue (E (AtPart k)) = (parts k).0 ((position_chosen places k).1 h) in (in_stock s lawful (AtPart k) r.0, r.1),
  λ h. (position_chosen places k).0 ((parts k).1 (from_stock s (AtPart k) h.0, h.1)),
)
of_present s lawful E places cells parts readings (AtCell c) = (
  λ h. let r : IsPartOrCell s (length s.readings) (AtCell c) × IsTrue (E (AtCell c)) = (readings c).0 ((cell_chosen cells c).1 h) in (in_stock s lawful (AtCell c) r.0, r.1),
  λ h. (cell_chosen cells c).0 ((readings c).1 (from_stock s (AtCell c) h.0, h.1)),
)
