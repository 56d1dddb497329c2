-- What a further measurement keeps.
use Rattle.std.proofs.Common.{◌≡◌, ℕ, zero, suc, ◌+◌, ◌<◌, ◌≤◌, ◌⊎◌, inl, inr, Bool, true, false, cond, List, [], ◌∷◌, length, slice_get, Option, Some, None, IsTrue, refl, sym, ap, subst, ◌∙◌, arith}
use Rattle.std.specs.List.{All}
use Rattle.std.proofs.lemmas.Bool.{both_ways, cond_both, cond-true, cond-false}
use Rattle.std.proofs.lemmas.Option.{slice_get_within, get_or_from_slice_get}
use Rattle.std.proofs.lemmas.List.Elements.{All-cons, All-head, All-tail, All-weaker}
use Rattle.environment_sets.specs.Lists.{IsIn, IsRising}
use Rattle.environment_sets.proofs.Membership.{IsIn-slice_get}
use Rattle.circuit_model.specs.declared.model.Cell.{Cell}
use Rattle.circuit_model.specs.declared.model.Fact.{Fact}
use Rattle.circuit_model.specs.Present.{PresentView, is_cell, is_cell_before, reading_in, with_reading, with_standing, without_reading, without_standing, IsLawfulComponent, IsLawfulMode, IsFactOf, IsLawful}
use Rattle.circuit_model.proofs.Moves.{component_same, fact_same, mode_same}
use Rattle.circuit_model.specs.declared.limits.TheConstants.{MOST_READINGS}
use Rattle.circuit_model.proofs.SameCells.{same_cell, same_cells, cell_itself, comes_after, not_before_itself, before_apart, before_trans}
use Rattle.circuit_model.specs.declared.present.Component.{Component}

abbrev pub ComesBefore : Fact → Fact → Type 0
ComesBefore f g = IsTrue (is_cell_before f.cell g.cell)

-- of two tests that do not both hold either may be made first
either_first : {X : Type 0} (s t : Bool) (x y z : X) → (s ≡ true → t ≡ true → ⊥) → cond s x (cond t y z) ≡ cond t y (cond s x z)
either_first true true x y z apart = absurd (apart refl refl)
either_first true false x y z apart = refl
either_first false t x y z apart = refl

-- a cell that has no word is not the first one's, and has none among the others
pub measured_later : (t : Bool) (v : ℕ) (o : Option ℕ) → cond t (Some v) o ≡ None → (t ≡ false) × (o ≡ None)
measured_later true v o h = cc
measured_later false v o h = (refl, h)

pub length-with_reading : (f : Fact) (readings : List Fact) → length (with_reading f readings) ≡ length readings + 1
length-with_reading f [] = refl
length-with_reading f (g ∷ readings) = cond_both (is_cell_before f.cell g.cell) (f ∷ g ∷ readings) (g ∷ with_reading f readings) (λ (fs : List Fact). length fs ≡ length (g ∷ readings) + 1)
    (λ _. omega arith)
    (λ _. omega (arith, length-with_reading f readings))

pub All-with_reading : (P : Fact → Type 0) (f : Fact) (readings : List Fact) → P f → All P readings → All P (with_reading f readings)
All-with_reading P f [] p h = All-cons P f [] p h
All-with_reading P f (g ∷ readings) p h = cond_both (is_cell_before f.cell g.cell) (f ∷ g ∷ readings) (g ∷ with_reading f readings) (λ (fs : List Fact). All P fs)
    (λ _. All-cons P f (g ∷ readings) p h)
    (λ _. All-cons P g (with_reading f readings) (All-head P g readings h) (All-with_reading P f readings p (All-tail P g readings h)))

pub IsIn-with_reading : (f : Fact) (readings : List Fact) (x : Fact) → IsIn (with_reading f readings) x → (f ≡ x) ⊎ IsIn readings x
IsIn-with_reading f [] x = λ h. h
IsIn-with_reading f (g ∷ readings) x = cond_both (is_cell_before f.cell g.cell) (f ∷ g ∷ readings) (g ∷ with_reading f readings) (λ (fs : List Fact). IsIn fs x → (f ≡ x) ⊎ IsIn (g ∷ readings) x)
    (λ _ h. h)
    (λ _ h. elim h as (λ _. (f ≡ x) ⊎ IsIn (g ∷ readings) x) [
      | inl e ↦ inr (inl e)
      | inr later ↦ elim (IsIn-with_reading f readings x later) as (λ _. (f ≡ x) ⊎ IsIn (g ∷ readings) x) [ inl e ↦ inl e | inr rest ↦ inr (inr rest) ]
    ])

-- a fact of a cell that is not measured keeps the order of cells
pub IsRising-with_reading : (f : Fact) (readings : List Fact) → reading_in readings f.cell ≡ None → IsRising ComesBefore readings → IsRising ComesBefore (with_reading f readings)
IsRising-with_reading f [] free h = ((λ y at. absurd at), tt)
IsRising-with_reading f (g ∷ readings) free h =
    let apart = measured_later (is_cell g.cell f.cell) g.value (reading_in readings f.cell) free in
    cond_both (is_cell_before f.cell g.cell) (f ∷ g ∷ readings) (g ∷ with_reading f readings) (λ (fs : List Fact). IsRising ComesBefore fs)
    (λ first. (
      (λ y at. elim at as (λ _. ComesBefore f y) [
        | inl e ↦ subst (λ (z : Fact). ComesBefore f z) e first
        | inr later ↦ before_trans f.cell g.cell y.cell first (h.0 y later)
      ]),
      h,
    ))
    (λ second. (
      (λ y at. elim (IsIn-with_reading f readings y at) as (λ _. ComesBefore g y) [
        | inl e ↦ subst (λ (z : Fact). ComesBefore g z) e (comes_after f.cell g.cell apart.0 second)
        | inr later ↦ h.0 y later
      ]),
      IsRising-with_reading f readings apart.1 h.1,
    ))

-- the word of a cell, with one more measurement
pub reading_in-with_reading : (f : Fact) (readings : List Fact) (c : Cell) → reading_in readings f.cell ≡ None → reading_in (with_reading f readings) c ≡ cond (is_cell f.cell c) (Some f.value) (reading_in readings c)
reading_in-with_reading f [] c free = refl
reading_in-with_reading f (g ∷ readings) c free =
    let apart = measured_later (is_cell g.cell f.cell) g.value (reading_in readings f.cell) free in
    let rest = reading_in-with_reading f readings c apart.1 in
    cond_both (is_cell_before f.cell g.cell) (f ∷ g ∷ readings) (g ∷ with_reading f readings) (λ (fs : List Fact). reading_in fs c ≡ cond (is_cell f.cell c) (Some f.value) (reading_in (g ∷ readings) c))
    (λ _. refl)
    (λ _. ap (λ o. cond (is_cell g.cell c) (Some g.value) o) rest ∙ either_first (is_cell g.cell c) (is_cell f.cell c) (Some g.value) (Some f.value) (reading_in readings c) (λ a b. both_ways (is_cell g.cell f.cell) apart.0 (same_cells g.cell f.cell c a b)))

-- a word of the measurements, as one of them has it
abbrev pub Measured : List Fact → Cell → ℕ → Type 0
Measured readings c v = (k : ℕ) × (f : Fact) × (slice_get readings k ≡ Some f) × (f.cell ≡ c) × (f.value ≡ v)

measured_first : (f : Fact) (readings : List Fact) (c : Cell) (v : ℕ) (b : Bool) → is_cell f.cell c ≡ b → cond b (Some f.value) (reading_in readings c) ≡ Some v → (reading_in readings c ≡ Some v → Measured readings c v) → Measured (f ∷ readings) c v
measured_first f readings c v true is e rest = (0, f, refl, same_cell f.cell c is, cc)
measured_first f readings c v false is e rest = let r : Measured readings c v = rest e in (suc r.0, r.1, r.2, r.3, r.4)

-- a measured word is that of some measurement
pub measured_at : (readings : List Fact) (c : Cell) (v : ℕ) → reading_in readings c ≡ Some v → Measured readings c v
measured_at [] c v e = cc
measured_at (f ∷ readings) c v e = measured_first f readings c v (is_cell f.cell c) refl e (λ h. measured_at readings c v h)

-- measurements at two places are of two cells
pub rising_apart : (readings : List Fact) → IsRising ComesBefore readings → (j k : ℕ) (f g : Fact) → j < k → slice_get readings j ≡ Some f → slice_get readings k ≡ Some g → f.cell ≡ g.cell → ⊥
rising_apart [] rising j k f g low e h same = cc
rising_apart (r ∷ readings) rising zero zero f g low e h same = absurd (omega arith)
rising_apart (r ∷ readings) rising zero (suc k) f g low e h same =
    let is : r ≡ f = cc in
    let before : ComesBefore r g = rising.0 g (IsIn-slice_get readings k g h) in
    let from_f : IsTrue (is_cell_before f.cell g.cell) = subst (λ (r : Fact). IsTrue (is_cell_before r.cell g.cell)) is before in
    not_before_itself g.cell (subst (λ (c : Cell). IsTrue (is_cell_before c g.cell)) same from_f)
rising_apart (r ∷ readings) rising (suc j) zero f g low e h same = absurd (omega arith)
rising_apart (r ∷ readings) rising (suc j) (suc k) f g low e h same = rising_apart readings rising.1 j k f g (omega arith) e h same

-- the word of a measurement is the measured word of its cell
reading_in-rising : (readings : List Fact) → IsRising ComesBefore readings → (k : ℕ) (f : Fact) → slice_get readings k ≡ Some f → reading_in readings f.cell ≡ Some f.value
reading_in-rising [] rising k f e = cc
reading_in-rising (r ∷ readings) rising zero f e =
    let is : r ≡ f = cc in
    let here : reading_in (f ∷ readings) f.cell ≡ Some f.value = cond-true (is_cell f.cell f.cell) (Some f.value) (reading_in readings f.cell) (cell_itself f.cell) in
    subst (λ (r : Fact). reading_in (r ∷ readings) f.cell ≡ Some f.value) (sym is) here
reading_in-rising (r ∷ readings) rising (suc k) f e =
    cond-false (is_cell r.cell f.cell) (Some r.value) (reading_in readings f.cell) (before_apart r.cell f.cell (rising.0 f (IsIn-slice_get readings k f e))) ∙ reading_in-rising readings rising.1 k f e

module _ (s : PresentView) (lawful : IsLawful s) (k : ℕ) (f : Fact) (at : slice_get s.readings k ≡ Some f) where
  -- each measurement is a fact of the present
  pub IsFactOf-at : IsFactOf s f
  IsFactOf-at = let P : Fact → Type 0 = λ f. IsFactOf s f in subst P (get_or_from_slice_get s.readings k f f at) (lawful.each_reading k f (slice_get_within s.readings k f at))

  pub reading_in-at : reading_in s.readings f.cell ≡ Some f.value
  reading_in-at = reading_in-rising s.readings lawful.rising k f at

module _ (f : Fact) (s : PresentView) where
  IsLawfulComponent-with_standing : (c : Component) → IsLawfulComponent s c → IsLawfulComponent (with_standing f s) c
  IsLawfulComponent-with_standing c h = component_same s (with_standing f s) refl refl refl c h

  IsFactOf-with_standing : (g : Fact) → IsFactOf s g → IsFactOf (with_standing f s) g
  IsFactOf-with_standing g h = record { net = h.net; cycle = h.cycle; fits = h.fits }

  -- a fact of a cell that is not measured keeps a present lawful
  pub IsLawful-with_standing : IsLawful s → IsFactOf s f → reading_in s.readings f.cell ≡ None → length s.readings < MOST_READINGS → IsLawful (with_standing f s)
  IsLawful-with_standing h fact free room =
      let t = with_standing f s in
      let more = length-with_reading f s.readings in
      record {
        some_cycle = h.some_cycle;
        cycles = h.cycles;
        nets = h.nets;
        cells = h.cells;
        parts = h.parts;
        readings = omega arith;
        names = h.names;
        distinct = h.distinct;
        widths = h.widths;
        each_part = All-weaker (IsLawfulComponent s) (IsLawfulComponent t) IsLawfulComponent-with_standing s.parts h.each_part;
        each_reading = All-with_reading (IsFactOf t) f s.readings (IsFactOf-with_standing f fact) (All-weaker (IsFactOf s) (IsFactOf t) IsFactOf-with_standing s.readings h.each_reading);
        rising = IsRising-with_reading f s.readings free h.rising;
        modes = h.modes;
        blocks = h.blocks;
        block_names = h.block_names;
        each_block = h.each_block;
        each_mode = All-weaker (IsLawfulMode s) (IsLawfulMode t) (mode_same s t refl refl) s.modes h.each_mode;
      }

IsIn-without_reading : (c : Cell) (readings : List Fact) (x : Fact) → IsIn (without_reading c readings) x → IsIn readings x
IsIn-without_reading c [] x = λ h. h
IsIn-without_reading c (f ∷ readings) x = cond_both (is_cell f.cell c) readings (f ∷ without_reading c readings) (λ (fs : List Fact). IsIn fs x → IsIn (f ∷ readings) x)
    (λ _ h. inr h)
    (λ _ h. elim h as (λ _. IsIn (f ∷ readings) x) [ inl e ↦ inl e | inr later ↦ inr (IsIn-without_reading c readings x later) ])

IsRising-without_reading : (c : Cell) (readings : List Fact) → IsRising ComesBefore readings → IsRising ComesBefore (without_reading c readings)
IsRising-without_reading c [] h = h
IsRising-without_reading c (f ∷ readings) h = cond_both (is_cell f.cell c) readings (f ∷ without_reading c readings) (λ (fs : List Fact). IsRising ComesBefore fs)
    (λ _. h.1)
    (λ _. ((λ y at. h.0 y (IsIn-without_reading c readings y at)), IsRising-without_reading c readings h.1))

All-without_reading : (P : Fact → Type 0) (c : Cell) (readings : List Fact) → All P readings → All P (without_reading c readings)
All-without_reading P c [] h = h
All-without_reading P c (f ∷ readings) h = cond_both (is_cell f.cell c) readings (f ∷ without_reading c readings) (λ (fs : List Fact). All P fs)
    (λ _. All-tail P f readings h)
    (λ _. All-cons P f (without_reading c readings) (All-head P f readings h) (All-without_reading P c readings (All-tail P f readings h)))

length-without_reading : (c : Cell) (readings : List Fact) → length (without_reading c readings) ≤ length readings
length-without_reading c [] = omega arith
length-without_reading c (f ∷ readings) = cond_both (is_cell f.cell c) readings (f ∷ without_reading c readings) (λ (fs : List Fact). length fs ≤ length (f ∷ readings))
    (λ _. omega arith)
    (λ _. omega (arith, length-without_reading c readings))

-- a present without a measurement is lawful
pub IsLawful-without_standing : (c : Cell) (s : PresentView) → IsLawful s → IsLawful (without_standing c s)
IsLawful-without_standing c s h =
    let t = without_standing c s in
    record {
      some_cycle = h.some_cycle;
      cycles = h.cycles;
      nets = h.nets;
      cells = h.cells;
      parts = h.parts;
      readings = omega (arith, h.readings, length-without_reading c s.readings);
      names = h.names;
      distinct = h.distinct;
      widths = h.widths;
      each_part = All-weaker (IsLawfulComponent s) (IsLawfulComponent t) (component_same s t refl refl refl) s.parts h.each_part;
      each_reading = All-without_reading (IsFactOf t) c s.readings (All-weaker (IsFactOf s) (IsFactOf t) (fact_same s t refl refl refl) s.readings h.each_reading);
      rising = IsRising-without_reading c s.readings h.rising;
      modes = h.modes;
      blocks = h.blocks;
      block_names = h.block_names;
      each_block = h.each_block;
      each_mode = All-weaker (IsLawfulMode s) (IsLawfulMode t) (mode_same s t refl refl) s.modes h.each_mode;
    }
