-- Measurements that are put in, taken out and put back, and what a present measures.
use Rattle.std.proofs.Common.{◌≡◌, ℕ, ◌+◌, ◌==◌, inl, inr, Bool, true, false, cond, List, [], ◌∷◌, length, slice_get, Option, Some, None, refl, sym, ap, ap₂, subst, ◌∙◌, arith}
use Rattle.std.specs.Option.{option_map_or}
use Rattle.std.proofs.lemmas.Bool.{cond_both, cond-true, cond-false, eqb-true, eq-eqb, false_from_ne_true}
use Rattle.environment_sets.specs.Lists.{IsIn, IsRising}
use Rattle.environment_sets.proofs.Membership.{none_found, IsIn-slice_get, slice_get-IsIn}
use Rattle.circuit_model.specs.declared.model.Cell.{Cell}
use Rattle.circuit_model.specs.declared.model.Fact.{Fact}
use Rattle.circuit_model.specs.Closure.{fact}
use Rattle.circuit_model.specs.Present.{PresentView, is_cell, is_cell_before, reading_in, with_reading, without_reading, with_standing, without_standing, IsFactOf, IsLawful}
use Rattle.circuit_model.proofs.SameCells.{same_cell, cell_itself, not_before_itself, before_trans}
use Rattle.circuit_model.proofs.Readings.{ComesBefore, measured_later, measured_at, reading_in-with_reading, reading_in-at, IsFactOf-at}
use Rattle.present_history.specs.Earlier.{measures}
use Rattle.present_history.specs.Undoing.{MayStand}

fact_by : (f : Fact) (c : Cell) (v : ℕ) → f.cell ≡ c → f.value ≡ v → f ≡ fact c v
fact_by f c v cell value = ap₂ fact cell value

-- a measured word is one of the measurements
pub IsIn-reading_in : (rs : List Fact) (c : Cell) (v : ℕ) → reading_in rs c ≡ Some v → IsIn rs (fact c v)
IsIn-reading_in rs c v e =
    let m = measured_at rs c v e in
    subst (λ (f : Fact). IsIn rs f) (fact_by m.1 c v m.3 m.4) (IsIn-slice_get rs m.0 m.1 m.2)

-- a measurement that is put in is taken out
pub taken_out : (f : Fact) (rs : List Fact) → reading_in rs f.cell ≡ None → without_reading f.cell (with_reading f rs) ≡ rs
taken_out f [] free = cond-true (is_cell f.cell f.cell) [] (f ∷ []) (cell_itself f.cell)
taken_out f (g ∷ rs) free =
    let apart = measured_later (is_cell g.cell f.cell) g.value (reading_in rs f.cell) free in
    cond_both (is_cell_before f.cell g.cell) (f ∷ g ∷ rs) (g ∷ with_reading f rs) (λ (fs : List Fact). without_reading f.cell fs ≡ g ∷ rs)
    (λ _. cond-true (is_cell f.cell f.cell) (g ∷ rs) (f ∷ without_reading f.cell (g ∷ rs)) (cell_itself f.cell))
    (λ _. cond-false (is_cell g.cell f.cell) (with_reading f rs) (g ∷ without_reading f.cell (with_reading f rs)) apart.0 ∙ ap (λ (fs : List Fact). g ∷ fs) (taken_out f rs apart.1))

-- and its word is that of its cell
pub reading_in-put : (f : Fact) (rs : List Fact) → reading_in rs f.cell ≡ None → reading_in (with_reading f rs) f.cell ≡ Some f.value
reading_in-put f rs free = reading_in-with_reading f rs f.cell free ∙ cond-true (is_cell f.cell f.cell) (Some f.value) (reading_in rs f.cell) (cell_itself f.cell)

-- the first measurement stays the first
put_first : (g : Fact) (rs : List Fact) → IsRising ComesBefore (g ∷ rs) → with_reading g rs ≡ g ∷ rs
put_first g [] rising = refl
put_first g (h ∷ rs) rising = cond-true (is_cell_before g.cell h.cell) (g ∷ h ∷ rs) (h ∷ with_reading g rs) (rising.0 h (inl refl))

never_both : (c d : Cell) → is_cell_before c d ≡ true → is_cell_before d c ≡ true → ⊥
never_both c d one other = not_before_itself c (before_trans c d c one other)

module _ (c : Cell) where
  -- the cell of a measurement has no other one
  none_later : (g : Fact) (rs : List Fact) → IsRising ComesBefore (g ∷ rs) → is_cell g.cell c ≡ true → reading_in rs c ≡ None
  none_later g rs rising here = none_found (reading_in rs c) (λ v e.
      let before : ComesBefore g (fact c v) = rising.0 (fact c v) (IsIn-reading_in rs c v e) in
      not_before_itself c (subst (λ (d : Cell). is_cell_before d c ≡ true) (same_cell g.cell c here) before))

  -- a cell whose measurement was taken out is not measured
  pub reading_in-taken : (rs : List Fact) → IsRising ComesBefore rs → reading_in (without_reading c rs) c ≡ None
  reading_in-taken [] rising = refl
  reading_in-taken (g ∷ rs) rising = cond_both (is_cell g.cell c) rs (g ∷ without_reading c rs) (λ (fs : List Fact). reading_in fs c ≡ None)
      (λ here. none_later g rs rising here)
      (λ other. cond-false (is_cell g.cell c) (Some g.value) (reading_in (without_reading c rs) c) other ∙ reading_in-taken rs rising.1)

  -- one measurement fewer
  pub length-taken : (rs : List Fact) (v : ℕ) → reading_in rs c ≡ Some v → length (without_reading c rs) + 1 ≡ length rs
  length-taken [] v e = cc
  length-taken (g ∷ rs) v e = cond_both (is_cell g.cell c) rs (g ∷ without_reading c rs) (λ (fs : List Fact). length fs + 1 ≡ length (g ∷ rs))
      (λ _. omega arith)
      (λ other. omega (arith, length-taken rs v (sym (cond-false (is_cell g.cell c) (Some g.value) (reading_in rs c) other) ∙ e)))

  -- a measurement that is taken out is put back
  pub put_back : (rs : List Fact) (v : ℕ) → IsRising ComesBefore rs → reading_in rs c ≡ Some v → with_reading (fact c v) (without_reading c rs) ≡ rs
  put_back [] v rising e = cc
  put_back (g ∷ rs) v rising e = cond_both (is_cell g.cell c) rs (g ∷ without_reading c rs) (λ (fs : List Fact). with_reading (fact c v) fs ≡ g ∷ rs)
      (λ here.
      let word : Some g.value ≡ Some v = sym (cond-true (is_cell g.cell c) (Some g.value) (reading_in rs c) here) ∙ e in
      let value : g.value ≡ v = cc in
      subst (λ (f : Fact). with_reading f rs ≡ g ∷ rs) (fact_by g c v (same_cell g.cell c here) value) (put_first g rs rising))
      (λ other.
      let later : reading_in rs c ≡ Some v = sym (cond-false (is_cell g.cell c) (Some g.value) (reading_in rs c) other) ∙ e in
      let before : ComesBefore g (fact c v) = rising.0 (fact c v) (IsIn-reading_in rs c v later) in
      let after : is_cell_before c g.cell ≡ false = false_from_ne_true (is_cell_before c g.cell) (λ first. never_both c g.cell first before) in
      cond-false (is_cell_before c g.cell) (fact c v ∷ g ∷ without_reading c rs) (g ∷ with_reading (fact c v) (without_reading c rs)) after ∙ ap (λ (fs : List Fact). g ∷ fs) (put_back rs v rising.1 later))

  -- what is left was there
  pub IsIn-left_over : (rs : List Fact) (x : Fact) → IsIn (without_reading c rs) x → IsIn rs x
  IsIn-left_over [] x = λ h. h
  IsIn-left_over (f ∷ rs) x = cond_both (is_cell f.cell c) rs (f ∷ without_reading c rs) (λ (fs : List Fact). IsIn fs x → IsIn (f ∷ rs) x)
      (λ _ h. inr h)
      (λ _ h. elim h as (λ _. IsIn (f ∷ rs) x) [ inl e ↦ inl e | inr later ↦ inr (IsIn-left_over rs x later) ])

module _ (s : PresentView) (lawful : IsLawful s) (c : Cell) (v : ℕ) (e : reading_in s.readings c ≡ Some v) where
  fact_at : IsFactOf s (fact c v)
  fact_at =
      let m = measured_at s.readings c v e in
      subst (λ (f : Fact). IsFactOf s f) (fact_by m.1 c v m.3 m.4) (IsFactOf-at s lawful m.0 m.1 m.2)

  -- a measurement that is taken out may stand again
  pub may_stand : MayStand (without_standing c s) (fact c v)
  may_stand = let f : IsFactOf s (fact c v) = fact_at in record {
    fact = record { net = f.net; cycle = f.cycle; fits = f.fits };
    free = reading_in-taken c s.readings lawful.rising;
    room = omega (arith, lawful.readings, length-taken c s.readings v e);
  }

  -- and then the present is as before
  pub stands_again : with_standing (fact c v) (without_standing c s) ≡ s
  stands_again = ap (λ (rs : List Fact). record s { readings = rs }) (put_back c s.readings v lawful.rising e)

module _ (s : PresentView) (f : Fact) where
  word_of : (o : Option ℕ) → option_map_or (λ word. word == f.value) o false ≡ true → o ≡ Some f.value
  word_of None e = cc
  word_of (Some word) e = ap Some (eqb-true word f.value e)

  -- what a present measures is the word of the cell
  pub measured_word : measures s f ≡ true → reading_in s.readings f.cell ≡ Some f.value
  measured_word e = word_of (reading_in s.readings f.cell) e

  pub word_measured : reading_in s.readings f.cell ≡ Some f.value → measures s f ≡ true
  word_measured e = ap (λ (o : Option ℕ). option_map_or (λ word. word == f.value) o false) e ∙ eq-eqb f.value f.value refl

  -- and stands in its list
  pub IsIn-measured : measures s f ≡ true → IsIn s.readings f
  IsIn-measured e = IsIn-reading_in s.readings f.cell f.value (measured_word e)

  pub measured-IsIn : IsLawful s → IsIn s.readings f → measures s f ≡ true
  measured-IsIn lawful h = let at : (k : ℕ) × (slice_get s.readings k ≡ Some f) = slice_get-IsIn s.readings f h in word_measured (reading_in-at s lawful at.0 f at.1)
