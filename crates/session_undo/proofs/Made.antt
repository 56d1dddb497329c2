-- What a change that was placed, or refused, makes of the state.
use Rattle.std.proofs.Common.{◌≡◌, ◌+◌, ℕ, ◌≤◌, Bool, true, false, not, inl, inr, List, ◌∷◌, length, take, filter, Option, Some, None, IsSome, unwrap_or, refl, sym, ap, subst, ◌∙◌, arith}
use Rattle.std.proofs.lemmas.List.Filters.{length-filter_both}
use Rattle.circuit_model.specs.Closure.{fact}
use Rattle.circuit_model.specs.declared.limits.TheConstants.{MOST_EARLIER}
use Rattle.circuit_model.specs.declared.model.Cell.{Cell}
use Rattle.circuit_model.specs.declared.model.Fact.{Fact}
use Rattle.circuit_model.specs.Present.{PresentView, IsLawful, reading_in, with_standing, without_standing, without_last_part}
use Rattle.netlist_text.specs.Checks as placing
use Rattle.netlist_text.specs.Found.{IsMade}
use Rattle.netlist_text.specs.Found as found
use Rattle.netlist_text.specs.Lookups.{cell_of}
use Rattle.netlist_text.specs.Placing.{changed, adds_part, IsOfPresent}
use Rattle.netlist_text.specs.declared.misfits.Misfit.{Misfit}
use Rattle.netlist_text.specs.declared.requests.Change.{Change}
use Rattle.netlist_text.specs.declared.requests.Change.TheVariants.{Measure, Retract}
use Rattle.netlist_text.specs.declared.requests.Request.TheVariants as request
use Rattle.present_history.specs.declared.undoing.Undoing.{Undoing}
use Rattle.present_history.specs.declared.undoing.Undoing.TheVariants as back
use Rattle.present_history.specs.Earlier.{measures, some_measures, earlier_of, MayUndoEach, retracted}
use Rattle.present_history.specs.Undoing.{undoing_of, undone}
use Rattle.present_history.proofs.Earlier.{change_kept, length-retracted}
use Rattle.present_history.proofs.TakenBack.{taken_back, undoing_of-measure, undoing_of-retract}
use Rattle.standing_changes.specs.Load.{IsOverloaded, IsWithinLoad}
use Rattle.standing_changes.specs.Remembered.{StandsWith, StandsRoomy, IsRemembered}
use Rattle.standing_changes.specs.declared.remembered.Remembered.{Remembered}
use Rattle.standing_changes.specs.declared.remembered.Stop as standing
use Rattle.standing_changes.specs.declared.remembered.Stop.TheVariants as standing_stop
use Rattle.session_undo.specs.Presents.{State, after}
use Rattle.session_undo.specs.Remembering.{parked, IsKept}
use Rattle.session_undo.specs.Serving.{IsStopFor, IsStoppedBy, IsFree, stop_of}
use Rattle.session_undo.specs.declared.refusals.Stop.{Stop}
use Rattle.present_history.proofs.Checked.{none_applies, nothing_there, something_there}
use Rattle.present_history.proofs.Standing.{taken_out, reading_in-put}
use Rattle.standing_view.specs.View.{without_fact}
use Rattle.session_undo.proofs.Changing.{undoing_adds, measured_parked, retracted_parked}
use Rattle.session_undo.proofs.Refusing.{goes_on, free_of, stopped, load_checked, one_cause, wants_adding}
use Rattle.session_undo.proofs.Remembered.{remembered}

-- the state with this present, and the earlier ones to which the changes go back
abbrev pub state_at : PresentView → List Undoing → State
state_at s us = record { present = s; earlier = earlier_of s us }

fewer : (p : Fact → Bool) (xs : List Fact) → length (filter p xs) ≤ length xs
fewer p xs = let both : length (filter p xs) + length (filter (λ x. not (p x)) xs) ≡ length xs = length-filter_both p (λ x. not (p x)) (λ x. refl) xs in omega (arith, both)

-- no more is parked than as many presents as are kept
pub roomy : (r : Remembered) (s : PresentView) (us : List Undoing) → length us ≤ MOST_EARLIER → StandsWith r s (parked s us) → StandsRoomy r s
roomy r s us most h = record {
  parked = parked s us;
  stands = h;
  few =
      let some : length (parked s us) ≤ length (retracted us) = fewer (λ f. not (measures s f)) (retracted us) in
      let all : length (retracted us) ≤ length us = length-retracted us in
      omega (arith, some, all, most);
}

-- a change that does not go with the present leaves the state
pub refused : (s t : PresentView) (us : List Undoing) (change : Change) → IsOfPresent change → (m : Misfit) → found.IsRefused s change m t → (a : Stop) → IsStopFor m a → IsStoppedBy (state_at s us) (request.Change change) a × (state_at t us ≡ state_at s us)
refused s t us change of m h a is = (stopped (state_at s us) change of m t h a is, ap (λ (x : PresentView). state_at x us) h.same)

-- a change that was made and noted
module _ (s t : PresentView) (us new : List Undoing) (u : Undoing) (change : Change) (lawful : IsLawful s) (of : IsOfPresent change) (h : IsMade s change t) (e : u ≡ undoing_of s change) (n : new ≡ take MOST_EARLIER (u ∷ us)) where
  same_new : new ≡ take MOST_EARLIER (undoing_of s change ∷ us)
  same_new = n ∙ ap (λ (x : Undoing). take MOST_EARLIER (x ∷ us)) e

  pub each_again : MayUndoEach s us → MayUndoEach t new
  each_again each =
      let P : PresentView → Type 0 = λ x. MayUndoEach x (take MOST_EARLIER (undoing_of s change ∷ us)) in
      let Q : List Undoing → Type 0 = λ x. MayUndoEach t x in
      subst Q (sym same_new) (subst P (sym h.made) ((change_kept s change us MOST_EARLIER lawful of h.free).each each))

  pub is_after : state_at t new ≡ after (state_at s us) change
  is_after =
      ap (state_at t) same_new
      ∙ (ap (λ (x : PresentView). state_at x (take MOST_EARLIER (undoing_of s change ∷ us))) h.made
      ∙ (ap (λ (earlier : List PresentView). let made : State = record { present = changed s change; earlier = earlier } in made) (change_kept s change us MOST_EARLIER lawful of h.free).earlier
      ∙ sym (goes_on (state_at s us) change of)))

-- a component that was placed goes again
pub without_it : (s t : PresentView) (change : Change) → IsLawful s → IsOfPresent change → adds_part change ≡ true → IsMade s change t → without_last_part t ≡ s
without_it s t change lawful of adds h =
    let back : undone (undoing_of s change) (changed s change) ≡ s = (taken_back s change lawful of h.free).is in
    let P : Undoing → Type 0 = λ x. undone x (changed s change) ≡ s in
    ap without_last_part h.made ∙ subst P (undoing_adds s change adds) back

-- the load was too large for what was placed, or there was no memory
pub stopped_adding : (s t : PresentView) (us : List Undoing) (change : Change) → IsOfPresent change → adds_part change ≡ true → IsMade s change t → (a : standing.Stop) → (a ≡ standing_stop.LoadTooLarge → IsOverloaded t) → IsStoppedBy (state_at s us) (request.Change change) (stop_of a)
stopped_adding s t us change of adds h standing_stop.LoadTooLarge over =
    let Q : PresentView → Type 0 = IsOverloaded in
    inr (free_of (state_at s us) change of h.free, rw (load_checked (state_at s us) change adds) (inl (subst Q h.made (over refl), refl)))
stopped_adding s t us change of adds h standing_stop.OutOfMemory over = record { free = free_of (state_at s us) change of h.free; uncaused = tt; wants = wants_adding (state_at s us) change adds }

-- a component that was placed
pub free_adding : (s t : PresentView) (us : List Undoing) (change : Change) → IsOfPresent change → adds_part change ≡ true → IsMade s change t → IsWithinLoad t → IsFree (state_at s us) (request.Change change)
free_adding s t us change of adds h within =
    let Q : PresentView → Type 0 = IsWithinLoad in
    record { early = free_of (state_at s us) change of h.free; late = rw (load_checked (state_at s us) change adds) (one_cause (state_at s us) change (subst Q h.made within)) }

-- a measurement
module _ (s t : PresentView) (us : List Undoing) (net : List ℕ) (cycle value : ℕ) (h : IsMade s (Measure net cycle value) t) where
  abbrev reading : Change
  reading = Measure net cycle value

  pub free_measuring : IsWithinLoad t → IsFree (state_at s us) (request.Change reading)
  free_measuring within = let Q : PresentView → Type 0 = IsWithinLoad in record { early = free_of (state_at s us) reading tt h.free; late = one_cause (state_at s us) reading (subst Q h.made within) }

  pub stopped_measuring : (r : Remembered) → IsLawful s → IsKept s us r → (a : standing.Stop) → (a ≡ standing_stop.LoadTooLarge → IsOverloaded t) → (a ≡ standing_stop.OutOfMemory → IsRemembered r (fact (cell_of s net cycle) value) → ⊥)
      → IsStoppedBy (state_at s us) (request.Change reading) (stop_of a)
  stopped_measuring r lawful kept standing_stop.LoadTooLarge over new = let Q : PresentView → Type 0 = IsOverloaded in inr (free_of (state_at s us) reading tt h.free, inl (subst Q h.made (over refl), refl))
  stopped_measuring r lawful kept standing_stop.OutOfMemory over new = record {
    free = free_of (state_at s us) reading tt h.free;
    uncaused = tt;
    wants = never_stood (some_measures (earlier_of s us) (fact (cell_of s net cycle) value)) (λ stood. new refl (remembered s us r lawful kept (fact (cell_of s net cycle) value) (inr stood)));
  }
    where
      never_stood : (b : Bool) → (b ≡ true → ⊥) → not b ≡ true
      never_stood true e = absurd (e refl)
      never_stood false e = refl

-- a measurement that was placed
pub record IsMeasured (s t : PresentView) (f : Fact) : Type 0 where
  pub free : reading_in s.readings f.cell ≡ None
  pub made : t ≡ with_standing f s

-- a line of a measurement that was placed, at this cell
pub placed_reading : (s t : PresentView) (net : List ℕ) (cycle value : ℕ) (cell : Cell) → cell ≡ cell_of s net cycle → IsMade s (Measure net cycle value) t → IsMeasured s t (fact cell value)
placed_reading s t net cycle value cell at h =
    let p = none_applies (placing.checks_of_change s (Measure net cycle value)) h.free in
    let P : Cell → Type 0 = λ c. IsMeasured s t (fact c value) in
    subst P (sym at) (record { free = nothing_there (reading_in s.readings (cell_of s net cycle)) p.1.1.1.1.0; made = h.made })

module _ (s t : PresentView) (f : Fact) (m : IsMeasured s t f) where
  -- without it the present is as before
  pub before_it : without_standing f.cell t ≡ s
  before_it = ap (without_standing f.cell) m.made ∙ ap (λ (rs : List Fact). record s { readings = rs }) (taken_out f s.readings m.free)

  pub free_before : reading_in (without_standing f.cell t).readings f.cell ≡ None
  free_before = ap (λ (u : PresentView). reading_in u.readings f.cell) before_it ∙ m.free

  pub listed_again : with_standing f (without_standing f.cell t) ≡ t
  listed_again = ap (with_standing f) before_it ∙ sym m.made

  pub measured_there : IsSome (reading_in t.readings f.cell)
  measured_there =
      let at : reading_in (with_standing f s).readings f.cell ≡ Some f.value = reading_in-put f s.readings m.free in
      let there : reading_in t.readings f.cell ≡ Some f.value = ap (λ (u : PresentView). reading_in u.readings f.cell) m.made ∙ at in
      subst (λ (o : Option ℕ). IsSome o) (sym there) refl

  pub roomy_before : (r : Remembered) (us : List Undoing) → length us ≤ MOST_EARLIER → StandsWith r s (parked s us) → StandsRoomy r (without_standing f.cell t)
  roomy_before r us most h = subst (StandsRoomy r) (sym before_it) (roomy r s us most h)

  -- it goes again
  pub without_reading_again : (r new : Remembered) (us : List Undoing) → ((parked : List Fact) → StandsWith r (without_standing f.cell t) parked → StandsWith new (without_standing f.cell t) parked) → StandsWith r s (parked s us) → StandsWith new s (parked s us)
  without_reading_again r new us leads h = subst (λ (u : PresentView). (parked : List Fact) → StandsWith r u parked → StandsWith new u parked) before_it leads (parked s us) h

  -- it stands
  pub with_reading_now : (r new : Remembered) (us : List Undoing) → ((parked : List Fact) → StandsWith r (without_standing f.cell t) parked → StandsWith new t (without_fact f parked)) → StandsWith r s (parked s us) → StandsWith new t (parked t us)
  with_reading_now r new us leads h =
      measured_parked new s us f t m.free m.made (subst (λ (u : PresentView). (parked : List Fact) → StandsWith r u parked → StandsWith new t (without_fact f parked)) before_it leads (parked s us) h)

-- the line of a measurement
module _ (s t : PresentView) (us : List Undoing) (change : Change) (net : List ℕ) (cycle value : ℕ) (e : change ≡ Measure net cycle value) where
  pub of_measure : IsOfPresent change
  of_measure = subst IsOfPresent (sym e) tt

  module _ (h : IsMade s change t) where
    as_measure : IsMade s (Measure net cycle value) t
    as_measure = let P : Change → Type 0 = λ x. IsMade s x t in subst P e h

    pub measured : (cell : Cell) → cell ≡ cell_of s net cycle → IsMeasured s t (fact cell value)
    measured cell at = placed_reading s t net cycle value cell at as_measure

    pub takes_measured : (u : Undoing) → u ≡ undoing_of s change → (cell : Cell) → cell ≡ cell_of s net cycle → u ≡ back.Measured cell
    takes_measured u is cell at = is ∙ (ap (undoing_of s) e ∙ (undoing_of-measure s net cycle value as_measure.free ∙ ap back.Measured (sym at)))

    pub measured_noted : (r : Remembered) (u : Undoing) → u ≡ undoing_of s change → (cell : Cell) → cell ≡ cell_of s net cycle → StandsWith r t (parked t us) → StandsWith r t (parked t (u ∷ us))
    measured_noted r u is cell at k = let P : Undoing → Type 0 = λ x. StandsWith r t (parked t (x ∷ us)) in subst P (sym (takes_measured u is cell at)) k

    pub free_measured : IsWithinLoad t → IsFree (state_at s us) (request.Change change)
    free_measured within = let P : Change → Type 0 = λ x. IsFree (state_at s us) (request.Change x) in subst P (sym e) (free_measuring s t us net cycle value as_measure within)

    pub stopped_measured : (r : Remembered) → IsLawful s → IsKept s us r → (a : standing.Stop) → (a ≡ standing_stop.LoadTooLarge → IsOverloaded t) → (cell : Cell) → cell ≡ cell_of s net cycle → (a ≡ standing_stop.OutOfMemory → IsRemembered r (fact cell value) → ⊥)
        → IsStoppedBy (state_at s us) (request.Change change) (stop_of a)
    stopped_measured r lawful kept a over cell at new =
        let P : Change → Type 0 = λ x. IsStoppedBy (state_at s us) (request.Change x) (stop_of a) in
        let Q : Cell → Type 0 = λ x. a ≡ standing_stop.OutOfMemory → IsRemembered r (fact x value) → ⊥ in
        subst P (sym e) (stopped_measuring s t us net cycle value as_measure r lawful kept a over (subst Q at new))

-- a measurement that stands no more
pub record IsRetracted (s t : PresentView) (cell : Cell) (u : Undoing) : Type 0 where
  pub word : ℕ
  pub at : reading_in s.readings cell ≡ Some word
  pub made : t ≡ without_standing cell s
  pub goes_back : u ≡ back.Retracted (fact cell word)

-- the line of a retraction
module _ (s t : PresentView) (us : List Undoing) (change : Change) (net : List ℕ) (cycle : ℕ) (e : change ≡ Retract net cycle) where
  pub of_retract : IsOfPresent change
  of_retract = subst IsOfPresent (sym e) tt

  module _ (h : IsMade s change t) where
    as_retract : IsMade s (Retract net cycle) t
    as_retract = let P : Change → Type 0 = λ x. IsMade s x t in subst P e h

    pub retraction : (u : Undoing) → u ≡ undoing_of s change → (cell : Cell) → cell ≡ cell_of s net cycle → IsRetracted s t cell u
    retraction u is cell at =
        let p = none_applies (placing.checks_of_change s (Retract net cycle)) as_retract.free in
        let word = something_there (reading_in s.readings (cell_of s net cycle)) p.1.1.0 in
        let there : reading_in s.readings (cell_of s net cycle) ≡ Some word.0 = word.1 in
        let P : Cell → Type 0 = λ c. IsRetracted s t c u in
        subst P (sym at) (record {
          word = word.0;
          at = there;
          made = as_retract.made;
          goes_back = is ∙ (ap (undoing_of s) e ∙ (undoing_of-retract s net cycle as_retract.free ∙ ap (λ (o : Option ℕ). back.Retracted (fact (cell_of s net cycle) (unwrap_or o 0))) there));
        })

    pub free_retracted : IsFree (state_at s us) (request.Change change)
    free_retracted = let P : Change → Type 0 = λ x. IsFree (state_at s us) (request.Change x) in subst P (sym e) (record { early = free_of (state_at s us) (Retract net cycle) tt as_retract.free; late = tt })

pub retracted_noted : (r : Remembered) (s t : PresentView) (us : List Undoing) (cell : Cell) (u : Undoing) → IsLawful s → (k : IsRetracted s t cell u) → StandsWith r (without_standing cell s) (fact cell k.word ∷ parked s us) → StandsWith r t (parked t (u ∷ us))
retracted_noted r s t us cell u lawful k h =
    let P : Undoing → Type 0 = λ x. StandsWith r (without_standing cell s) (parked (without_standing cell s) (x ∷ us)) in
    let Q : PresentView → Type 0 = λ x. StandsWith r x (parked x (u ∷ us)) in
    subst Q (sym k.made) (subst P (sym k.goes_back) (retracted_parked r s us lawful cell k.word k.at h))
