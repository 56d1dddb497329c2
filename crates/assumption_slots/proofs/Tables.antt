-- Rows of slots, and their changes.
use Rattle.std.proofs.Common.{◌≡◌, ◌≢◌, ◌↔◌, inl, inr, ℕ, zero, suc, ◌+◌, ◌<◌, ◌≤◌, Bool, true, false, IsTrue, List, [], ◌∷◌, Option, Some, None, length, slice_get, get_or, slice_set, take, drop, replicate, ◌++◌, true≢false, refl, sym, ap, subst, ◌∙◌, arith}
use Rattle.std.specs.Option.{option_flatten}
use Rattle.std.proofs.Math.Seq.{take-append_seam}
use Rattle.std.proofs.lemmas.Bool.{cases_eq}
use Rattle.std.proofs.lemmas.List.{length-set}
use Rattle.std.proofs.lemmas.Option.{slice_get_within, slice_get_read}
use Rattle.circuit_model.specs.declared.model.Cell.{Cell}
use Rattle.circuit_model.specs.declared.model.Assumption.{Assumption}
use Rattle.circuit_model.specs.declared.model.Assumption.TheVariants.{Part}
use Rattle.environment_sets.specs.declared.environment.Env.{Env}
use Rattle.environment_sets.specs.Sets.{Set, no_elements}
use Rattle.environment_sets.specs.Members.{members}
use Rattle.environment_sets.specs.Lists.{IsIn}
use Rattle.environment_sets.proofs.Membership.{IsIn-slice_get, slice_get-IsIn}
use Rattle.environment_sets.proofs.Ranges.{last_or_before}
use Rattle.environment_sets.specs.declared.environment.TheConstants.{SLOTS}
use Rattle.assumption_slots.specs.declared.table.TheConstants.{PLACES}
use Rattle.assumption_slots.specs.Slots.{stock, AreSlots}
use Rattle.assumption_slots.specs.Table.{place_of_cell, HasPortOf, slots_at, IsMarked, IsTable}

-- the row that stands at a place
pub slots_at-read : (rows : List Env) (place : ℕ) (row : Env) → slice_get rows place ≡ Some row → (k : ℕ) → slots_at rows place k ≡ members row k
slots_at-read [] place row e k = cc
slots_at-read (r ∷ rows) zero row e k = let same : r ≡ row = cc in ap (λ (r : Env). members r k) same
slots_at-read (r ∷ rows) (suc place) row e k = slots_at-read rows place row e k

-- a row that is written
pub slots_at-set_same : (rows : List Env) (place : ℕ) (row : Env) → place < length rows → (k : ℕ) → slots_at (slice_set rows place row) place k ≡ members row k
slots_at-set_same [] place row inside k = absurd (omega arith)
slots_at-set_same (r ∷ rows) zero row inside k = refl
slots_at-set_same (r ∷ rows) (suc place) row inside k = slots_at-set_same rows place row (omega arith) k

pub slots_at-set_other : (rows : List Env) (place : ℕ) (row : Env) (other : ℕ) → (place ≡ other → ⊥) → (k : ℕ) → slots_at (slice_set rows place row) other k ≡ slots_at rows other k
slots_at-set_other [] place row other differ k = refl
slots_at-set_other (r ∷ rows) zero row zero differ k = absurd (differ refl)
slots_at-set_other (r ∷ rows) zero row (suc other) differ k = refl
slots_at-set_other (r ∷ rows) (suc place) row zero differ k = refl
slots_at-set_other (r ∷ rows) (suc place) row (suc other) differ k = slots_at-set_other rows place row other (λ e. differ (ap suc e)) k

-- rows with no slot
pub slots_at-none : (n : ℕ) (row : Env) → ((k : ℕ) → members row k ≡ false) → (place k : ℕ) → slots_at (replicate n row) place k ≡ false
slots_at-none zero row none place k = refl
slots_at-none (suc n) row none zero k = none k
slots_at-none (suc n) row none (suc place) k = slots_at-none n row none place k

abbrev nothing : List Env
nothing = []

take-nothing : (n : ℕ) → take n nothing ≡ nothing
take-nothing zero = refl
take-nothing (suc n) = refl

pub slots_at-filled : (rows old : List Env) (n m : ℕ) (row : Env) → rows ≡ take n old ++ replicate m row → old ≡ [] → members row ≡ no_elements → (place k : ℕ) → slots_at rows place k ≡ false
slots_at-filled rows old n m row is none empty place k =
    let at : take n old ≡ [] = rw none (take-nothing n) in
    let P : List Env → Type 0 = λ rows. slots_at rows place k ≡ false in
    subst P (sym (is ∙ ap (λ (xs : List Env). xs ++ replicate m row) at)) (slots_at-none m row (λ k. ap (λ (E : Set ℕ). E k) empty) place k)

module _ (slot : ℕ) (is_in : Bool) where
  -- one row is written
  pub marked_at : (rows : List Env) (place : ℕ) (before now : Env) → place < length rows → slice_get rows place ≡ Some before → members now slot ≡ is_in
      → ((k : ℕ) → k ≢ slot → members now k ≡ members before k) → IsMarked slot is_in (λ p. place ≡ p) rows (slice_set rows place now)
  marked_at rows place before now inside at here others = record {
    wide = length-set rows place now;
    others = λ p k differ. elim (cases_eq place p) [
      | inl e ↦ there p k e ∙ (others k differ ∙ sym (was p k e))
      | inr apart ↦ slots_at-set_other rows place now p apart k
    ];
    here = λ p e. there p slot e ∙ here;
    same = λ p. elim (cases_eq place p) [ inl e ↦ inr e | inr apart ↦ inl (slots_at-set_other rows place now p apart slot) ];
  } where
    there : (p k : ℕ) → place ≡ p → slots_at (slice_set rows place now) p k ≡ members now k
    there p k e = let P : ℕ → Type 0 = λ p. slots_at (slice_set rows place now) p k ≡ members now k in subst P e (slots_at-set_same rows place now inside k)

    was : (p k : ℕ) → place ≡ p → slots_at rows p k ≡ members before k
    was p k e = let P : ℕ → Type 0 = λ p. slots_at rows p k ≡ members before k in subst P e (slots_at-read rows place before at k)

  -- the same rows by another name
  pub marked_map : (P R : ℕ → Type 0) (old new : List Env) → ((place : ℕ) → P place → R place) → ((place : ℕ) → R place → P place) → IsMarked slot is_in P old new → IsMarked slot is_in R old new
  marked_map P R old new to from marks = record {
    wide = marks.wide;
    others = marks.others;
    here = λ place r. marks.here place (from place r);
    same = λ place. elim (marks.same place) [ inl e ↦ inl e | inr p ↦ inr (to place p) ];
  }

  -- no row
  pub marked_none : (P : ℕ → Type 0) (rows : List Env) → ((place : ℕ) → P place → ⊥) → IsMarked slot is_in P rows rows
  marked_none P rows none = record {
    wide = refl;
    others = λ place k differ. refl;
    here = λ place p. absurd (none place p);
    same = λ place. inl refl;
  }

  -- one after another
  pub marked_next : (Q : ℕ → ℕ → Type 0) (n : ℕ) (old mid new : List Env) → IsMarked slot is_in (λ place. (i : ℕ) × (i < n) × Q i place) old mid → IsMarked slot is_in (Q n) mid new
      → IsMarked slot is_in (λ place. (i : ℕ) × (i < n + 1) × Q i place) old new
  marked_next Q n old mid new before now = record {
    wide = now.wide ∙ before.wide;
    others = λ place k differ. now.others place k differ ∙ before.others place k differ;
    here = λ place at. elim (now.same place) [
      | inl e ↦ elim (last_or_before at.0 n at.1) [
        | inl last ↦ now.here place (let P : ℕ → Type 0 = λ i. Q i place in subst P last at.2)
        | inr inside ↦ e ∙ before.here place (at.0, inside, at.2)
      ]
      | inr q ↦ now.here place q
    ];
    same = λ place. elim (now.same place) [
      | inl e ↦ elim (before.same place) [ inl d ↦ inl (e ∙ d) | inr at ↦ inr (at.0, omega arith, at.2) ]
      | inr q ↦ inr (n, omega arith, q)
    ];
  }

  -- each element of a list, by its place
  pub marked_all : {X : Type 0} (xs : List X) (R : X → ℕ → Type 0) (n : ℕ) (old new : List Env) → length xs ≤ n
      → IsMarked slot is_in (λ place. (i : ℕ) × (i < n) × ((x : X) × (slice_get xs i ≡ Some x) × R x place)) old new → IsMarked slot is_in (λ place. (x : X) × IsIn xs x × R x place) old new
  marked_all {X = X} xs R n old new reached marks = marked_map _ _ old new
      (λ place at. (at.2.0, IsIn-slice_get xs at.0 at.2.0 at.2.1, at.2.2))
      (λ place at. by_place place at.0 (slice_get-IsIn xs at.0 at.1) at.2)
      marks
    where
      by_place : (place : ℕ) (x : X) → (i : ℕ) × (slice_get xs i ≡ Some x) → R x place → (i : ℕ) × (i < n) × ((x : X) × (slice_get xs i ≡ Some x) × R x place)
      by_place place x at r = let inside : at.0 < length xs = slice_get_within xs at.0 x at.1 in (at.0, omega arith, (x, at.1, r))

-- the later of two writes is what stands there
pub set_twice : {X : Type 0} (xs : List X) (i : ℕ) (x y : X) → slice_set (slice_set xs i x) i y ≡ slice_set xs i y
set_twice [] i x y = refl
set_twice (z ∷ xs) zero x y = refl
set_twice {X = X} (z ∷ xs) (suc i) x y = ap (λ (xs : List X). z ∷ xs) (set_twice xs i x y)

-- what is remembered at a slot that is written
pub stock-set_same : (slots : List (Option Assumption)) (slot : ℕ) (what : Option Assumption) → slot < length slots → stock (slice_set slots slot what) slot ≡ what
stock-set_same [] slot what inside = absurd (omega arith)
stock-set_same (x ∷ slots) zero what inside = flattened what where
  flattened : (what : Option Assumption) → option_flatten (Some what) ≡ what
  flattened what = refl
stock-set_same (x ∷ slots) (suc slot) what inside = stock-set_same slots slot what (omega arith)

stock-set_other : (slots : List (Option Assumption)) (slot : ℕ) (what : Option Assumption) (k : ℕ) → (slot ≡ k → ⊥) → stock (slice_set slots slot what) k ≡ stock slots k
stock-set_other [] slot what k differ = refl
stock-set_other (x ∷ slots) zero what zero differ = absurd (differ refl)
stock-set_other (x ∷ slots) zero what (suc k) differ = refl
stock-set_other (x ∷ slots) (suc slot) what zero differ = refl
stock-set_other (x ∷ slots) (suc slot) what (suc k) differ = stock-set_other slots slot what k (λ e. differ (ap suc e))

module _ (slots : List (Option Assumption)) (rows new : List Env) (slot : ℕ) (inside : slot < length slots) (table : IsTable slots rows) where
  table_changed : (what : Option Assumption) → length new ≡ length rows → ((place k : ℕ) → k ≢ slot → slots_at new place k ≡ slots_at rows place k)
      → ((place : ℕ) → IsTrue (slots_at new place slot) ↔ HasPortOf what place) → IsTable (slice_set slots slot what) new
  table_changed what wide others here = record {
    wide = wide ∙ table.wide;
    exact = λ place k. elim (cases_eq slot k) [ inl e ↦ at_slot place k e | inr differ ↦ elsewhere place k differ ];
  } where
    at_slot : (place k : ℕ) → slot ≡ k → IsTrue (slots_at new place k) ↔ HasPortOf (stock (slice_set slots slot what) k) place
    at_slot place k e =
        let P : ℕ → Type 0 = λ k. IsTrue (slots_at new place k) ↔ HasPortOf (stock (slice_set slots slot what) k) place in
        let Q : Option Assumption → Type 0 = λ o. IsTrue (slots_at new place slot) ↔ HasPortOf o place in
        subst P e (subst Q (sym (stock-set_same slots slot what inside)) (here place))

    elsewhere : (place k : ℕ) → (slot ≡ k → ⊥) → IsTrue (slots_at new place k) ↔ HasPortOf (stock (slice_set slots slot what) k) place
    elsewhere place k differ =
        let same : slots_at new place k ≡ slots_at rows place k = others place k (λ e. differ (sym e)) in
        let Q : Option Assumption → Type 0 = λ o. IsTrue (slots_at new place k) ↔ HasPortOf o place in
        subst Q (sym (stock-set_other slots slot what k differ)) (λ h. (table.exact place k).0 (sym same ∙ h), λ h. same ∙ (table.exact place k).1 h)

  -- what was there goes
  pub table_without : IsMarked slot false (HasPortOf (stock slots slot)) rows new → IsTable (slice_set slots slot None) new
  table_without marks = table_changed None marks.wide marks.others (λ place. (λ h. absurd (gone place h), λ h. let bad : None ≡ Some (Part h.0) = h.1 in absurd (cc))) where
    has : (place : ℕ) → IsTrue (slots_at new place slot) → HasPortOf (stock slots slot) place
    has place h = elim (marks.same place) [ inl e ↦ (table.exact place slot).0 (sym e ∙ h) | inr p ↦ p ]

    gone : (place : ℕ) → IsTrue (slots_at new place slot) → ⊥
    gone place h = true≢false (sym h ∙ marks.here place (has place h))

  -- an assumption is there, where nothing was
  pub table_with : (what : Assumption) → stock slots slot ≡ None → IsMarked slot true (HasPortOf (Some what)) rows new → IsTable (slice_set slots slot (Some what)) new
  table_with what free marks = table_changed (Some what) marks.wide marks.others (λ place. (has place, marks.here place)) where
    has : (place : ℕ) → IsTrue (slots_at new place slot) → HasPortOf (Some what) place
    has place h = elim (marks.same place) [
      | inl e ↦ (let was : HasPortOf (stock slots slot) place = (table.exact place slot).0 (sym e ∙ h) in let bad : None ≡ Some (Part was.0) = sym free ∙ was.1 in absurd (cc))
      | inr p ↦ p
    ]

-- what was lent as a slice and comes back as long
pub lent_back : {X : Type 0} (now before : List X) (n : ℕ) → n ≡ length now → take n (now ++ drop (length now) before) ≡ now
lent_back now before n is = rw is (take-append_seam now (drop (length now) before))

-- an assumption is at the slot, and the end is past it
pub AreSlots-with : (slots : List (Option Assumption)) (end slot m : ℕ) (what : Option Assumption) → AreSlots slots end → end ≤ m → slot < m → m ≤ SLOTS → AreSlots (slice_set slots slot what) m
AreSlots-with slots end slot m what are more inside within = record {
  wide = length-set slots slot what ∙ are.wide;
  within = within;
  free = λ k past. stock-set_other slots slot what k (λ e. absurd (omega arith)) ∙ are.free k (omega arith);
}

-- the row of the cell's place
pub row_exact : (slots seen : List (Option Assumption)) (rows : List Env) (place : ℕ) (row : Env) (cell : Cell) → IsTable slots rows → slots ≡ seen → place < PLACES → place ≡ place_of_cell cell → row ≡ get_or rows place row
    → (k : ℕ) → IsTrue (members row k) ↔ HasPortOf (stock seen k) (place_of_cell cell)
row_exact slots seen rows place row cell table view inside is at k =
    let P : List (Option Assumption) → Type 0 = λ slots. IsTrue (members row k) ↔ HasPortOf (stock slots k) (place_of_cell cell) in
    let Q : ℕ → Type 0 = λ place. IsTrue (members row k) ↔ HasPortOf (stock slots k) place in
    let same : slots_at rows place k ≡ members row k = slots_at-read rows place row (slice_get_read rows (length rows) place row refl (rw table.wide inside) at) k in
    subst P view (subst Q is (λ h. (table.exact place k).0 (same ∙ h), λ h. sym same ∙ (table.exact place k).1 h))
