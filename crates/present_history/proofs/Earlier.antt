-- The earlier presents.
use Rattle.std.proofs.Common.{◌≡◌, ℕ, zero, suc, ◌≤◌, ◌⊎◌, inl, inr, Bool, true, false, ◌||◌, ◌==◌, List, [], ◌∷◌, length, take, slice_get, Option, Some, None, refl, sym, ap, subst, ◌∙◌, arith}
use Rattle.std.specs.List.{cons_option, list_any}
use Rattle.std.specs.Option.{option_map_or}
use Rattle.std.proofs.lemmas.Bool.{or_left, or_right}
use Rattle.std.proofs.lemmas.Option.{same_Some}
use Rattle.environment_sets.specs.Lists.{IsIn}
use Rattle.circuit_model.specs.declared.model.Fact.{Fact}
use Rattle.circuit_model.specs.Blocks.{BlockView}
use Rattle.circuit_model.specs.Closure.{fact}
use Rattle.circuit_model.specs.Present.{PresentView, block_at, without_last, IsLawful, is_fact}
use Rattle.circuit_model.proofs.SameCells.{same_fact, fact_itself}
use Rattle.circuit_model.proofs.Presents.{IsLawful-without_last, IsLawful-with_cycles}
use Rattle.circuit_model.proofs.PresentChanges.{IsLawful-with_cost, IsLawful-without_last_mode, IsLawful-without_last_net, IsLawful-without_last_block, IsLawful-change_block, lawful_without_last_pin, lawful_without_last_inner}
use Rattle.circuit_model.proofs.Readings.{IsIn-with_reading, IsLawful-with_standing, IsLawful-without_standing}
use Rattle.present_history.specs.declared.undoing.Undoing.{Undoing}
use Rattle.present_history.specs.declared.undoing.Undoing.TheVariants as back
use Rattle.present_history.specs.Earlier.{measures, some_measures, earlier_of, MayUndoEach, retracted_by, retracted, retracts}
use Rattle.present_history.specs.Laws.{EarlierAreFirst, KeepsChange}
use Rattle.present_history.specs.Undoing.{undone, MayUndo, undoing_of, TakesBack}
use Rattle.netlist_text.specs.Checks.{checks_of_change, first_misfit}
use Rattle.netlist_text.specs.Placing.{changed, IsOfPresent}
use Rattle.netlist_text.specs.declared.requests.Change.{Change}
use Rattle.present_history.proofs.TakenBack.{taken_back}
use Rattle.present_history.proofs.Standing.{reading_in-put, IsIn-left_over, IsIn-measured, measured-IsIn, word_measured}

-- the newest changes
first_earlier : (s : PresentView) (us : List Undoing) (n : ℕ) → earlier_of s (take n us) ≡ take n (earlier_of s us)
first_earlier s [] zero = refl
first_earlier s [] (suc n) = refl
first_earlier s (u ∷ us) zero = refl
first_earlier s (u ∷ us) (suc n) = ap (λ (ts : List PresentView). undone u s ∷ ts) (first_earlier (undone u s) us n)

first_each : (s : PresentView) (us : List Undoing) (n : ℕ) → MayUndoEach s us → MayUndoEach s (take n us)
first_each s [] zero h = h
first_each s [] (suc n) h = h
first_each s (u ∷ us) zero h = tt
first_each s (u ∷ us) (suc n) h = (h.0, first_each (undone u s) us n h.1)

pub earlier_first : (s : PresentView) (us : List Undoing) (n : ℕ) → EarlierAreFirst s us n
earlier_first s us n = record { earlier = first_earlier s us n; each = first_each s us n }

-- a change that is made, and what takes it back put before the others
module _ (s : PresentView) (us : List Undoing) (n : ℕ) (u : Undoing) (t : PresentView) (h : TakesBack u t s) where
  kept_earlier : earlier_of t (take n (u ∷ us)) ≡ take n (s ∷ earlier_of s us)
  kept_earlier = first_earlier t (u ∷ us) n ∙ ap (λ (s : PresentView). take n (s ∷ earlier_of s us)) h.is

  kept_each : MayUndoEach s us → MayUndoEach t (take n (u ∷ us))
  kept_each each = first_each t (u ∷ us) n (h.may, subst (λ (s : PresentView). MayUndoEach s us) (sym h.is) each)

pub change_kept : (s : PresentView) (change : Change) (us : List Undoing) (n : ℕ) → IsLawful s → IsOfPresent change → first_misfit (checks_of_change s change) ≡ None → KeepsChange s change us n
change_kept s change us n h of free = let back : TakesBack (undoing_of s change) (changed s change) s = taken_back s change h of free in record {
  earlier = kept_earlier s us n (undoing_of s change) (changed s change) back;
  each = kept_each s us n (undoing_of s change) (changed s change) back;
}

-- as many earlier presents as changes
pub length-earlier_of : (s : PresentView) (us : List Undoing) → length (earlier_of s us) ≡ length us
length-earlier_of s [] = refl
length-earlier_of s (u ∷ us) = ap suc (length-earlier_of (undone u s) us)

-- a lawful present is lawful when a change is taken back
pub IsLawful-undone : (u : Undoing) (s : PresentView) → IsLawful s → MayUndo u s → IsLawful (undone u s)
IsLawful-undone (back.Cycles before) s h may = IsLawful-with_cycles before s may.empty h may.low may.high
IsLawful-undone back.Net s h may = IsLawful-without_last_net s h may.some may.unused
IsLawful-undone back.Part s h may = IsLawful-without_last s h may.unused
IsLawful-undone (back.Cost part before) s h may = IsLawful-with_cost s h part before may.there may.low may.high
IsLawful-undone back.Mode s h may = IsLawful-without_last_mode s h
IsLawful-undone back.Block s h may = IsLawful-without_last_block s h may.unused
IsLawful-undone (back.Pin block) s h may = IsLawful-change_block s h block (λ (b : BlockView). record b { pins = without_last b.pins }) may.there may.unused (λ b. refl) (λ l. lawful_without_last_pin (block_at s block) l may.unused_pin)
IsLawful-undone (back.Inner block) s h may = IsLawful-change_block s h block (λ (b : BlockView). record b { inners = without_last b.inners }) may.there may.unused (λ b. refl) (λ l. lawful_without_last_inner (block_at s block) l)
IsLawful-undone (back.Measured cell) s h may = IsLawful-without_standing cell s h
IsLawful-undone (back.Retracted f) s h may = IsLawful-with_standing f s h may.fact may.free may.room

pub earlier_lawful : (s : PresentView) (us : List Undoing) → IsLawful s → MayUndoEach s us → (t : PresentView) → IsIn (earlier_of s us) t → IsLawful t
earlier_lawful s [] h each t at = absurd at
earlier_lawful s (u ∷ us) h each t (inl e) = subst IsLawful e (IsLawful-undone u s h each.0)
earlier_lawful s (u ∷ us) h each t (inr at) = earlier_lawful (undone u s) us (IsLawful-undone u s h each.0) each.1 t at

-- a list with what may come before it
pub first_in : (o : Option Fact) (fs : List Fact) (f : Fact) → o ≡ Some f → IsIn (cons_option o fs) f
first_in None fs f e = cc
first_in (Some g) fs f e = inl (same_Some g f e)

pub later_in : (o : Option Fact) (fs : List Fact) (f : Fact) → IsIn fs f → IsIn (cons_option o fs) f
later_in None fs f h = h
later_in (Some g) fs f h = inr h

pub first_or_later : (o : Option Fact) (fs : List Fact) (f : Fact) → IsIn (cons_option o fs) f → (o ≡ Some f) ⊎ IsIn fs f
first_or_later None fs f h = inr h
first_or_later (Some g) fs f (inl e) = inl (ap Some e)
first_or_later (Some g) fs f (inr h) = inr h

length-cons_option : (o : Option Fact) (fs : List Fact) (n : ℕ) → length fs ≤ n → length (cons_option o fs) ≤ suc n
length-cons_option None fs n h = omega arith
length-cons_option (Some f) fs n h = omega arith

-- no more measurements were retracted than changes made
pub length-retracted : (us : List Undoing) → length (retracted us) ≤ length us
length-retracted [] = omega arith
length-retracted (u ∷ us) = length-cons_option (retracted_by u) (retracted us) (length us) (length-retracted us)

-- what the newest changes retracted, all changes did
pub retracted-taken : (us : List Undoing) (n : ℕ) (f : Fact) → IsIn (retracted (take n us)) f → IsIn (retracted us) f
retracted-taken [] zero f h = h
retracted-taken [] (suc n) f h = h
retracted-taken (u ∷ us) zero f h = absurd h
retracted-taken (u ∷ us) (suc n) f h = elim (first_or_later (retracted_by u) (retracted (take n us)) f h) as (λ _. IsIn (retracted (u ∷ us)) f) [
  | inl e ↦ first_in (retracted_by u) (retracted us) f e
  | inr later ↦ later_in (retracted_by u) (retracted us) f (retracted-taken us n f later)
]

-- the change at the place retracted the measurement
pub record IsDropped (us : List Undoing) (n : ℕ) (f : Fact) : Type 0 where
  pub undoing : Undoing
  pub last : slice_get us n ≡ Some undoing
  pub fact : retracted_by undoing ≡ Some f

-- of one more, what all changes retracted, the newest ones did, or the oldest one
pub retracted-dropped : (us : List Undoing) (n : ℕ) (f : Fact) → length us ≤ suc n → IsIn (retracted us) f → IsIn (retracted (take n us)) f ⊎ IsDropped us n f
retracted-dropped [] n f most h = absurd h
retracted-dropped (u ∷ us) zero f most h = elim (first_or_later (retracted_by u) (retracted us) f h) as (λ _. IsIn (retracted (take 0 (u ∷ us))) f ⊎ IsDropped (u ∷ us) 0 f) [
  | inl e ↦ inr (record { undoing = u; last = refl; fact = e })
  | inr later ↦ absurd (none_in us (omega (arith, most)) later)
] where
  none_in : (us : List Undoing) → length us ≤ 0 → IsIn (retracted us) f → ⊥
  none_in [] few h = h
  none_in (u ∷ us) few h = omega (arith, few)
retracted-dropped (u ∷ us) (suc n) f most h = elim (first_or_later (retracted_by u) (retracted us) f h) as (λ _. IsIn (retracted (take (suc n) (u ∷ us))) f ⊎ IsDropped (u ∷ us) (suc n) f) [
  | inl e ↦ inl (first_in (retracted_by u) (retracted (take n us)) f e)
  | inr later ↦ elim (retracted-dropped us n f (omega (arith, most)) later) as (λ _. IsIn (retracted (take (suc n) (u ∷ us))) f ⊎ IsDropped (u ∷ us) (suc n) f) [
    | inl kept ↦ inl (later_in (retracted_by u) (retracted (take n us)) f kept)
    | inr gone ↦ inr (record { undoing = gone.undoing; last = gone.last; fact = gone.fact })
  ]
]

-- what was retracted stood before
stood_before : (u : Undoing) (s : PresentView) (f : Fact) → MayUndo u s → retracted_by u ≡ Some f → measures (undone u s) f ≡ true
stood_before (back.Cycles before) s f may e = cc
stood_before back.Net s f may e = cc
stood_before back.Part s f may e = cc
stood_before (back.Cost part before) s f may e = cc
stood_before back.Mode s f may e = cc
stood_before back.Block s f may e = cc
stood_before (back.Pin block) s f may e = cc
stood_before (back.Inner block) s f may e = cc
stood_before (back.Measured cell) s f may e = cc
stood_before (back.Retracted g) s f may e =
    subst (λ (x : Fact). measures (undone (back.Retracted g) s) x ≡ true) (same_Some g f e) (word_measured (undone (back.Retracted g) s) g (reading_in-put g s.readings may.free))

pub retracted_earlier : (s : PresentView) (us : List Undoing) → MayUndoEach s us → (f : Fact) → IsIn (retracted us) f → some_measures (earlier_of s us) f ≡ true
retracted_earlier s [] each f h = absurd h
retracted_earlier s (u ∷ us) each f h = elim (first_or_later (retracted_by u) (retracted us) f h) as (λ _. some_measures (earlier_of s (u ∷ us)) f ≡ true) [
  | inl e ↦ or_left (measures (undone u s) f) (some_measures (earlier_of (undone u s) us) f) (stood_before u s f each.0 e)
  | inr later ↦ or_right (measures (undone u s) f) (some_measures (earlier_of (undone u s) us) f) (retracted_earlier (undone u s) us each.1 f later)
]

-- what stood before the change stands still, or was retracted
stands_or_retracted : (u : Undoing) (s : PresentView) (f : Fact) → IsIn (undone u s).readings f → IsIn s.readings f ⊎ (retracted_by u ≡ Some f)
stands_or_retracted (back.Cycles before) s f h = inl h
stands_or_retracted back.Net s f h = inl h
stands_or_retracted back.Part s f h = inl h
stands_or_retracted (back.Cost part before) s f h = inl h
stands_or_retracted back.Mode s f h = inl h
stands_or_retracted back.Block s f h = inl h
stands_or_retracted (back.Pin block) s f h = inl h
stands_or_retracted (back.Inner block) s f h = inl h
stands_or_retracted (back.Measured cell) s f h = inl (IsIn-left_over cell s.readings f h)
stands_or_retracted (back.Retracted g) s f h = elim (IsIn-with_reading g s.readings f h) as (λ _. IsIn s.readings f ⊎ (retracted_by (back.Retracted g) ≡ Some f)) [
  | inl e ↦ inr (ap Some e)
  | inr still ↦ inl still
]

one_of : (a b : Bool) → (a || b) ≡ true → (a ≡ true) ⊎ (b ≡ true)
one_of true b e = inl refl
one_of false b e = inr e

listed_or_retracted : (u : Undoing) (us : List Undoing) (s : PresentView) (f : Fact) → IsIn (undone u s).readings f → IsIn s.readings f ⊎ IsIn (retracted (u ∷ us)) f
listed_or_retracted u us s f h = elim (stands_or_retracted u s f h) as (λ _. IsIn s.readings f ⊎ IsIn (retracted (u ∷ us)) f) [
  | inl still ↦ inl still
  | inr e ↦ inr (first_in (retracted_by u) (retracted us) f e)
]

what_stood : (s : PresentView) (us : List Undoing) (f : Fact) → some_measures (earlier_of s us) f ≡ true → IsIn s.readings f ⊎ IsIn (retracted us) f
what_stood s [] f e = cc
what_stood s (u ∷ us) f e = elim (one_of (measures (undone u s) f) (some_measures (earlier_of (undone u s) us) f) e) as (λ _. IsIn s.readings f ⊎ IsIn (retracted (u ∷ us)) f) [
  | inl newest ↦ listed_or_retracted u us s f (IsIn-measured (undone u s) f newest)
  | inr older ↦ elim (what_stood (undone u s) us f older) as (λ _. IsIn s.readings f ⊎ IsIn (retracted (u ∷ us)) f) [
    | inl there ↦ listed_or_retracted u us s f there
    | inr gone ↦ inr (later_in (retracted_by u) (retracted us) f gone)
  ]
]

pub stood_or_retracted : (s : PresentView) (us : List Undoing) → IsLawful s → (f : Fact) → some_measures (earlier_of s us) f ≡ true → (measures s f ≡ true) ⊎ IsIn (retracted us) f
stood_or_retracted s us h f e = elim (what_stood s us f e) as (λ _. (measures s f ≡ true) ⊎ IsIn (retracted us) f) [
  | inl listed ↦ inl (measured-IsIn s f h listed)
  | inr gone ↦ inr gone
]

module _ (f : Fact) where
  passes : (o : Option Fact) → option_map_or (is_fact f) o false ≡ true → o ≡ Some f
  passes None e = cc
  passes (Some g) e = ap Some (sym (same_fact f g e))

  is_passed : (o : Option Fact) → o ≡ Some f → option_map_or (is_fact f) o false ≡ true
  is_passed o e = ap (λ (o : Option Fact). option_map_or (is_fact f) o false) e ∙ fact_itself f

  -- the test on changes says what is among those that were retracted
  pub IsIn-retracted : (us : List Undoing) → list_any (retracts f) us ≡ true → IsIn (retracted us) f
  IsIn-retracted [] e = cc
  IsIn-retracted (u ∷ us) e = elim (one_of (retracts f u) (list_any (retracts f) us) e) as (λ _. IsIn (retracted (u ∷ us)) f) [
    | inl newest ↦ first_in (retracted_by u) (retracted us) f (passes (retracted_by u) newest)
    | inr older ↦ later_in (retracted_by u) (retracted us) f (IsIn-retracted us older)
  ]

  pub retracted-IsIn : (us : List Undoing) → IsIn (retracted us) f → list_any (retracts f) us ≡ true
  retracted-IsIn [] h = absurd h
  retracted-IsIn (u ∷ us) h = elim (first_or_later (retracted_by u) (retracted us) f h) as (λ _. list_any (retracts f) (u ∷ us) ≡ true) [
    | inl newest ↦ or_left (retracts f u) (list_any (retracts f) us) (is_passed (retracted_by u) newest)
    | inr older ↦ or_right (retracts f u) (list_any (retracts f) us) (retracted-IsIn us older)
  ]
