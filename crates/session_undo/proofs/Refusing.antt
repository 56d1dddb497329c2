-- Checks on a present as those of a line.
use Rattle.std.proofs.Common.{nat_lt, ◌≡◌, ◌∙◌, inl, inr, Bool, true, false, if◌then◌else◌, List, [], ◌∷◌, ◌++◌, Option, Some, None, refl, sym, ap, subst}
use Rattle.std.specs.Option.{option_map}
use Rattle.circuit_model.specs.Present.{PresentView}
use Rattle.netlist_text.specs.Checks as placing
use Rattle.netlist_text.specs.Misfits as misfits
use Rattle.std.proofs.lemmas.Bool.{both_ways}
use Rattle.netlist_text.specs.Found.{IsRefused}
use Rattle.netlist_text.specs.Placing.{takes_memory, adds_part, IsOfPresent}
use Rattle.netlist_text.specs.declared.misfits.Misfit.{Misfit}
use Rattle.netlist_text.specs.declared.misfits.Misfit.TheVariants as misfit
use Rattle.netlist_text.specs.declared.requests.Change.{Change}
use Rattle.netlist_text.specs.declared.requests.Change.TheVariants.{Net, Add, Measure, Cycles, Retract, Undo, Cost, Stuck, Acts, Define, Pin, Inside, UseBlock}
use Rattle.netlist_text.specs.declared.requests.Request.TheVariants as request
use Rattle.netlist_text.specs.Placing.{changed}
use Rattle.standing_changes.specs.Load.{IsWithinLoad}
use Rattle.session_undo.specs.Checks.{first_refusal, of_each, checks_of, checks_of_change, late_checks_of, checks_of_load, HasNoCause}
use Rattle.session_undo.specs.Presents.{State, after, with_present}
use Rattle.session_undo.specs.Serving.{IsStopFor, IsStoppedBy, RemembersNothing}
use Rattle.session_undo.specs.Steps.{wants_memory}
use Rattle.session_undo.specs.declared.refusals.Refusal.{Refusal}
use Rattle.session_undo.specs.declared.refusals.Refusal.TheVariants as refusal
use Rattle.session_undo.specs.declared.refusals.Stop.{Stop}
use Rattle.session_undo.specs.declared.refusals.Stop.TheVariants as stop

one_more : (b : Bool) (m : Misfit) (o : Option Misfit) (p : Option Refusal) → p ≡ option_map refusal.Misfit o → (if b then Some (refusal.Misfit m) else p) ≡ option_map refusal.Misfit (if b then Some m else o)
one_more true m o p e = refl
one_more false m o p e = e

-- the first refusal is the first misfit
pub first_of_each : (checks : List placing.Check) → first_refusal (of_each checks) ≡ option_map refusal.Misfit (placing.first_misfit checks)
first_of_each [] = refl
first_of_each (c ∷ checks) = one_more c.applies c.misfit (placing.first_misfit checks) (first_refusal (of_each checks)) (first_of_each checks)

pub none_first : (checks : List placing.Check) → placing.first_misfit checks ≡ None → first_refusal (of_each checks) ≡ None
none_first checks e = first_of_each checks ∙ ap (option_map refusal.Misfit) e

pub some_first : (checks : List placing.Check) (m : Misfit) → placing.first_misfit checks ≡ Some m → first_refusal (of_each checks) ≡ Some (refusal.Misfit m)
some_first checks m e = first_of_each checks ∙ ap (option_map refusal.Misfit) e

keeps : (b : Bool) (m n : Misfit) (o p : Option Misfit) → (o ≡ Some m → p ≡ Some m) → (if b then Some n else o) ≡ Some m → (if b then Some n else p) ≡ Some m
keeps true m n o p rest e = e
keeps false m n o p rest e = rest e

-- the first checks that refuse, whatever follows
pub refused_first : (xs ys : List placing.Check) (m : Misfit) → placing.first_misfit xs ≡ Some m → placing.first_misfit (xs ++ ys) ≡ Some m
refused_first [] ys m e = cc
refused_first (c ∷ xs) ys m e = keeps c.applies m c.misfit (placing.first_misfit xs) (placing.first_misfit (xs ++ ys)) (refused_first xs ys m) e

-- of several checks that do not apply the first, and the others
module _ (m : Misfit) (b : Bool) (checks : List placing.Check) where
  pub first_passes : placing.first_misfit (placing.check m b ∷ checks) ≡ None → b ≡ false
  first_passes = passes b (placing.first_misfit checks)
    where
      passes : (b : Bool) (o : Option Misfit) → (if b then Some m else o) ≡ None → b ≡ false
      passes true o e = cc
      passes false o e = refl

  pub others_pass : placing.first_misfit (placing.check m b ∷ checks) ≡ None → placing.first_misfit checks ≡ None
  others_pass = passes b (placing.first_misfit checks)
    where
      passes : (b : Bool) (o : Option Misfit) → (if b then Some m else o) ≡ None → o ≡ None
      passes true o e = cc
      passes false o e = e

module _ (P : Misfit → Type 0) where
  chosen : (b : Bool) (m n : Misfit) (o : Option Misfit) → P n → (o ≡ Some m → P m) → (if b then Some n else o) ≡ Some m → P m
  chosen true m n o p rest e = let same : n ≡ m = cc in subst P same p
  chosen false m n o p rest e = rest e

  abbrev Each : List placing.Check → Type 0
  Each [] = Unit {0}
  Each (c ∷ checks) = P c.misfit × Each checks

  -- the first misfit is that of some check
  first_is : (checks : List placing.Check) (m : Misfit) → Each checks → placing.first_misfit checks ≡ Some m → P m
  first_is [] m h e = cc
  first_is (c ∷ checks) m h e = chosen c.applies m c.misfit (placing.first_misfit checks) h.0 (first_is checks m h.1) e

-- want of memory has the greatest number, and is no check
abbrev IsNumbered : Misfit → Type 0
IsNumbered m = nat_lt (misfits.number_of m) (misfits.number_of misfit.OutOfMemory) ≡ true

never_memory : (s : PresentView) (change : Change) → placing.first_misfit (placing.checks_of_change s change) ≡ Some misfit.OutOfMemory → ⊥
never_memory s (Cycles count) e = both_ways (nat_lt 90 90) refl (first_is IsNumbered (placing.checks_of_change s (Cycles count)) misfit.OutOfMemory (refl, (refl, tt)) e)
never_memory s (Net name width) e = both_ways (nat_lt 90 90) refl (first_is IsNumbered (placing.checks_of_change s (Net name width)) misfit.OutOfMemory (refl, (refl, (refl, (refl, tt)))) e)
never_memory s (Add name kind nets) e = both_ways (nat_lt 90 90) refl (first_is IsNumbered (placing.checks_of_change s (Add name kind nets)) misfit.OutOfMemory (refl, (refl, (refl, (refl, (refl, tt))))) e)
never_memory s (Cost name cost) e = both_ways (nat_lt 90 90) refl (first_is IsNumbered (placing.checks_of_change s (Cost name cost)) misfit.OutOfMemory (refl, (refl, tt)) e)
never_memory s (Stuck name value cost) e = both_ways (nat_lt 90 90) refl (first_is IsNumbered (placing.checks_of_change s (Stuck name value cost)) misfit.OutOfMemory (refl, (refl, (refl, (refl, (refl, tt))))) e)
never_memory s (Acts name kind cost) e = both_ways (nat_lt 90 90) refl (first_is IsNumbered (placing.checks_of_change s (Acts name kind cost)) misfit.OutOfMemory (refl, (refl, (refl, (refl, tt)))) e)
never_memory s (Define block) e = both_ways (nat_lt 90 90) refl (first_is IsNumbered (placing.checks_of_change s (Define block)) misfit.OutOfMemory (refl, (refl, tt)) e)
never_memory s (Pin block name width) e = both_ways (nat_lt 90 90) refl (first_is IsNumbered (placing.checks_of_change s (Pin block name width)) misfit.OutOfMemory (refl, (refl, (refl, (refl, (refl, tt))))) e)
never_memory s (Inside block name kind nets) e = both_ways (nat_lt 90 90) refl (first_is IsNumbered (placing.checks_of_change s (Inside block name kind nets)) misfit.OutOfMemory (refl, (refl, (refl, (refl, (refl, (refl, (refl, tt))))))) e)
never_memory s (UseBlock block name nets) e = both_ways (nat_lt 90 90) refl (first_is IsNumbered (placing.checks_of_change s (UseBlock block name nets)) misfit.OutOfMemory (refl, (refl, (refl, (refl, (refl, (refl, tt)))))) e)
never_memory s (Measure net cycle value) e = both_ways (nat_lt 90 90) refl (first_is IsNumbered (placing.checks_of_change s (Measure net cycle value)) misfit.OutOfMemory (refl, (refl, (refl, (refl, (refl, tt))))) e)
never_memory s (Retract net cycle) e = both_ways (nat_lt 90 90) refl (first_is IsNumbered (placing.checks_of_change s (Retract net cycle)) misfit.OutOfMemory (refl, (refl, (refl, tt))) e)
never_memory s Undo e = both_ways (nat_lt 90 90) refl (first_is IsNumbered (placing.checks_of_change s Undo) misfit.OutOfMemory tt e)

-- the checks of a change of a present are those on the present
pub of_present : (s : State) (change : Change) → IsOfPresent change → checks_of_change s change ≡ of_each (placing.checks_of_change s.present change)
of_present s (Cycles count) h = refl
of_present s (Net name width) h = refl
of_present s (Add name kind nets) h = refl
of_present s (Cost name cost) h = refl
of_present s (Stuck name value cost) h = refl
of_present s (Acts name kind cost) h = refl
of_present s (Define block) h = refl
of_present s (Pin block name width) h = refl
of_present s (Inside block name kind nets) h = refl
of_present s (UseBlock block name nets) h = refl
of_present s (Measure net cycle value) h = refl
of_present s (Retract net cycle) h = refl
of_present s Undo h = absurd h

-- it may find no memory where the present may
pub wants : (s : State) (change : Change) → IsOfPresent change → takes_memory change ≡ true → wants_memory s (request.Change change) ≡ true
wants s (Cycles count) h e = cc
wants s (Net name width) h e = refl
wants s (Add name kind nets) h e = refl
wants s (Cost name cost) h e = cc
wants s (Stuck name value cost) h e = refl
wants s (Acts name kind cost) h e = refl
wants s (Define block) h e = refl
wants s (Pin block name width) h e = refl
wants s (Inside block name kind nets) h e = refl
wants s (UseBlock block name nets) h e = refl
wants s (Measure net cycle value) h e = cc
wants s (Retract net cycle) h e = cc
wants s Undo h e = absurd h

-- and the old present goes before the earlier ones
pub goes_on : (s : State) (change : Change) → IsOfPresent change → after s change ≡ with_present (changed s.present change) s
goes_on s (Cycles count) h = refl
goes_on s (Net name width) h = refl
goes_on s (Add name kind nets) h = refl
goes_on s (Cost name cost) h = refl
goes_on s (Stuck name value cost) h = refl
goes_on s (Acts name kind cost) h = refl
goes_on s (Define block) h = refl
goes_on s (Pin block name width) h = refl
goes_on s (Inside block name kind nets) h = refl
goes_on s (UseBlock block name nets) h = refl
goes_on s (Measure net cycle value) h = refl
goes_on s (Retract net cycle) h = refl
goes_on s Undo h = absurd h

-- what alters neither what stands nor the load has no check after memory was found
pub no_late : (s : State) (change : Change) → RemembersNothing change → HasNoCause (late_checks_of s (request.Change change))
no_late s (Cycles count) h = tt
no_late s (Net name width) h = tt
no_late s (Add name kind nets) h = absurd h
no_late s (Cost name cost) h = tt
no_late s (Stuck name value cost) h = tt
no_late s (Acts name kind cost) h = tt
no_late s (Define block) h = tt
no_late s (Pin block name width) h = tt
no_late s (Inside block name kind nets) h = tt
no_late s (UseBlock block name nets) h = absurd h
no_late s (Measure net cycle value) h = absurd h
no_late s (Retract net cycle) h = absurd h
no_late s Undo h = absurd h

-- one that adds a component has the check of the load
pub load_checked : (s : State) (change : Change) → adds_part change ≡ true → late_checks_of s (request.Change change) ≡ checks_of_load s change
load_checked s (Cycles count) e = cc
load_checked s (Net name width) e = cc
load_checked s (Add name kind nets) e = refl
load_checked s (Cost name cost) e = cc
load_checked s (Stuck name value cost) e = cc
load_checked s (Acts name kind cost) e = cc
load_checked s (Define block) e = cc
load_checked s (Pin block name width) e = cc
load_checked s (Inside block name kind nets) e = cc
load_checked s (UseBlock block name nets) e = refl
load_checked s (Measure net cycle value) e = cc
load_checked s (Retract net cycle) e = cc
load_checked s Undo e = cc

-- and may find no memory
pub wants_adding : (s : State) (change : Change) → adds_part change ≡ true → wants_memory s (request.Change change) ≡ true
wants_adding s (Cycles count) e = cc
wants_adding s (Net name width) e = cc
wants_adding s (Add name kind nets) e = refl
wants_adding s (Cost name cost) e = cc
wants_adding s (Stuck name value cost) e = cc
wants_adding s (Acts name kind cost) e = cc
wants_adding s (Define block) e = cc
wants_adding s (Pin block name width) e = cc
wants_adding s (Inside block name kind nets) e = cc
wants_adding s (UseBlock block name nets) e = refl
wants_adding s (Measure net cycle value) e = cc
wants_adding s (Retract net cycle) e = cc
wants_adding s Undo e = cc

pub one_cause : (s : State) (change : Change) → IsWithinLoad (changed s.present change) → HasNoCause (checks_of_load s change)
one_cause s change within = (within, tt)

module _ (s : State) (change : Change) (h : IsOfPresent change) where
  -- no check on the present applies
  pub free_of : placing.first_misfit (placing.checks_of_change s.present change) ≡ None → first_refusal (checks_of s (request.Change change)) ≡ None
  free_of free = ap first_refusal (of_present s change h) ∙ none_first (placing.checks_of_change s.present change) free

  -- what does not go with the present stops the change
  pub stopped : (m : Misfit) (t : PresentView) → IsRefused s.present change m t → (a : Stop) → IsStopFor m a → IsStoppedBy s (request.Change change) a
  stopped m t r (stop.Refused refused) is =
      let first : placing.first_misfit (placing.checks_of_change s.present change) ≡ Some m = elim r.by as (λ _. placing.first_misfit (placing.checks_of_change s.present change) ≡ Some m) [ inl e ↦ e | inr none ↦ absurd (is.0 none.misfit_is) ] in
      inl (ap first_refusal (of_present s change h) ∙ (some_first (placing.checks_of_change s.present change) m first ∙ ap (λ (x : Refusal). Some x) (sym is.1)))
  stopped m t r stop.OutOfMemory is = elim r.by as (λ _. IsStoppedBy s (request.Change change) stop.OutOfMemory) [
    | inl e ↦ absurd (never_memory s.present change (e ∙ ap (λ (x : Misfit). Some x) is))
    | inr none ↦ record { free = free_of none.free; uncaused = tt; wants = wants s change h none.takes }
  ]
