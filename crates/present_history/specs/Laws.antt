-- Laws of what takes changes back.
use Rattle.std.specs.Prelude.{◌≡◌, ◌⊎◌, ◌↔◌, ℕ, ◌≤◌, true, List, ◌∷◌, length, take, None}
use Rattle.environment_sets.specs.Lists.{IsIn}
use Rattle.circuit_model.specs.declared.model.Fact.{Fact}
use Rattle.circuit_model.specs.Present.{PresentView, IsLawful}
use Rattle.netlist_text.specs.Checks.{checks_of_change, first_misfit}
use Rattle.netlist_text.specs.Placing.{changed, IsOfPresent}
use Rattle.netlist_text.specs.declared.requests.Change.{Change}
use Rattle.present_history.specs.Earlier.{measures, some_measures, earlier_of, MayUndoEach, retracted}
use Rattle.present_history.specs.Undoing.{undoing_of, TakesBack}
use Rattle.present_history.specs.declared.undoing.Undoing.{Undoing}

-- A change of a present to which no check applies can be taken back, and then the present is as before it.
abbrev pub ChangesAreUndone : Type 0
ChangesAreUndone = (s : PresentView) (change : Change) → IsLawful s → IsOfPresent change → first_misfit (checks_of_change s change) ≡ None → TakesBack (undoing_of s change) (changed s change) s

-- of the first changes, the first earlier presents; and each of them can be taken back where each of all can
pub record EarlierAreFirst (s : PresentView) (us : List Undoing) (n : ℕ) : Type 0 where
  pub earlier : earlier_of s (take n us) ≡ take n (earlier_of s us)
  pub each : MayUndoEach s us → MayUndoEach s (take n us)

-- The earlier presents of the newest changes are the newest earlier presents.
abbrev pub EarlierAreTaken : Type 0
EarlierAreTaken = (s : PresentView) (us : List Undoing) (n : ℕ) → EarlierAreFirst s us n

-- After a change the earlier presents are the one before it and then those before that, so many of all; and each change
-- that is kept can be taken back, where each could before.
pub record KeepsChange (s : PresentView) (change : Change) (us : List Undoing) (n : ℕ) : Type 0 where
  pub earlier : earlier_of (changed s change) (take n (undoing_of s change ∷ us)) ≡ take n (s ∷ earlier_of s us)
  pub each : MayUndoEach s us → MayUndoEach (changed s change) (take n (undoing_of s change ∷ us))

-- What takes a change back is put before the others, as many as are kept.
abbrev pub ChangesAreKept : Type 0
ChangesAreKept = (s : PresentView) (change : Change) (us : List Undoing) (n : ℕ) → IsLawful s → IsOfPresent change → first_misfit (checks_of_change s change) ≡ None → KeepsChange s change us n

-- There are as many earlier presents as changes.
abbrev pub EarlierAreAsMany : Type 0
EarlierAreAsMany = (s : PresentView) (us : List Undoing) → length (earlier_of s us) ≡ length us

-- The earlier presents of a lawful one are lawful.
abbrev pub EarlierAreLawful : Type 0
EarlierAreLawful = (s : PresentView) (us : List Undoing) → IsLawful s → MayUndoEach s us → (t : PresentView) → IsIn (earlier_of s us) t → IsLawful t

-- What was retracted is measured in some earlier present.
abbrev pub RetractedStood : Type 0
RetractedStood = (s : PresentView) (us : List Undoing) → MayUndoEach s us → (f : Fact) → IsIn (retracted us) f → some_measures (earlier_of s us) f ≡ true

-- What is measured in some earlier present is measured still, or was retracted.
abbrev pub WhatStoodIsRetracted : Type 0
WhatStoodIsRetracted = (s : PresentView) (us : List Undoing) → IsLawful s → (f : Fact) → some_measures (earlier_of s us) f ≡ true → (measures s f ≡ true) ⊎ IsIn (retracted us) f

-- A lawful present measures what stands in its list.
abbrev pub MeasuredAreListed : Type 0
MeasuredAreListed = (s : PresentView) → IsLawful s → (f : Fact) → (measures s f ≡ true) ↔ IsIn s.readings f

-- No more measurements were retracted than changes made.
abbrev pub RetractedAreFew : Type 0
RetractedAreFew = (us : List Undoing) → length (retracted us) ≤ length us
