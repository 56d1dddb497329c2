-- What a change or a question comes to.
use Rattle.std.specs.Prelude.{◌≡◌, ◌≢◌, ◌⊎◌, ℕ, true, List, Option, None, Some, Result, MatchOption, MatchResult}
use Rattle.circuit_model.specs.declared.model.Cell.{Cell}
use Rattle.circuit_model.specs.Present.{circuit_of}
use Rattle.circuit_model.specs.Chosen.{chosen_places}
use Rattle.circuit_model.specs.Closure.{fact}
use Rattle.circuit_model.specs.Derivation.{Derivation, Value, Clash, IsCanonical}
use Rattle.circuit_model.specs.Diagnoses.{Place}
use Rattle.circuit_model.specs.Probe.{AreConflicts, AreDiagnoses, IsBestProbe, HasNoProbe}
use Rattle.environment_sets.specs.Members.{sets}
use Rattle.environment_sets.specs.Sets.{Set}
use Rattle.netlist_text.specs.Lookups.{cell_of}
use Rattle.netlist_text.specs.declared.misfits.Misfit.{Misfit}
use Rattle.netlist_text.specs.declared.misfits.Misfit.TheVariants.{OutOfMemory}
use Rattle.netlist_text.specs.declared.requests.Change.{Change}
use Rattle.netlist_text.specs.declared.requests.Change.TheVariants.{Net, Add, Measure, Cycles, Retract, Undo, Cost, Stuck, Acts, Define, Pin, Inside, UseBlock}
use Rattle.netlist_text.specs.declared.requests.Query.{Query}
use Rattle.netlist_text.specs.declared.requests.Query.TheVariants as asked
use Rattle.netlist_text.specs.declared.requests.Query.TheVariants.{Label, Conflicts, Diagnose, Explain, Why, Show, First}
use Rattle.netlist_text.specs.declared.requests.Request.{Request}
use Rattle.netlist_text.specs.declared.requests.Request.TheVariants as request
use Rattle.standing_changes.specs.declared.remembered.Stop as standing
use Rattle.standing_changes.specs.declared.remembered.Stop.TheVariants as standing_stop
use Rattle.session_undo.specs.Presents.{State, after}
use Rattle.session_undo.specs.Checks.{checks_of, first_refusal, middle_checks_of, late_checks_of, IsFirstCause, HasNoCause}
use Rattle.session_undo.specs.Steps.{wants_memory, AreFirstDiagnoses, IsFirstOfLabel, IsConflictNumber}
use Rattle.standing_view.specs.Conflicts.{IsFirstNogood}
use Rattle.probe_planner.specs.declared.planner.Probe.{Probe}
use Rattle.proof_check.specs.Written.{derivation_of}
use Rattle.session_undo.specs.declared.answers.Answer.{Answer}
use Rattle.session_undo.specs.declared.answers.Answer.TheVariants as answer
use Rattle.session_undo.specs.declared.refusals.Refusal.{Refusal}
use Rattle.session_undo.specs.declared.refusals.Refusal.TheVariants as refusal
use Rattle.session_undo.specs.declared.refusals.Stop.{Stop}
use Rattle.session_undo.specs.declared.refusals.Stop.TheVariants as stop

-- What a misfit stops a change with: that of memory with the want of it, and each other one with a refusal.
abbrev pub IsStopFor : Misfit → Stop → Type 0
IsStopFor m (stop.Refused refused) = (m ≢ OutOfMemory) × (refused ≡ refusal.Misfit m)
IsStopFor m stop.OutOfMemory = m ≡ OutOfMemory

-- what a change is stopped with that is not remembered
abbrev pub stop_of : standing.Stop → Stop
stop_of standing_stop.LoadTooLarge = stop.Refused refusal.LoadTooLarge
stop_of standing_stop.OutOfMemory = stop.OutOfMemory

-- a change after which nothing more and nothing less is remembered and stands
abbrev pub RemembersNothing : Change → Type 0
RemembersNothing (Cycles count) = Unit {0}
RemembersNothing (Net name width) = Unit {0}
RemembersNothing (Add name kind nets) = ⊥
RemembersNothing (Cost name cost) = Unit {0}
RemembersNothing (Stuck name value cost) = Unit {0}
RemembersNothing (Acts name kind cost) = Unit {0}
RemembersNothing (Define block) = Unit {0}
RemembersNothing (Pin block name width) = Unit {0}
RemembersNothing (Inside block name kind nets) = Unit {0}
RemembersNothing (UseBlock block name nets) = ⊥
RemembersNothing (Measure net cycle value) = ⊥
RemembersNothing (Retract net cycle) = ⊥
RemembersNothing Undo = ⊥

-- the first check that applies refuses, or none does, and then the first of the causes that come after memory was found
abbrev pub IsRefused : State → Request → Refusal → Type 0
IsRefused old request refusal = (first_refusal (checks_of old request) ≡ Some refusal) ⊎ ((first_refusal (checks_of old request) ≡ None) × IsFirstCause (late_checks_of old request) refusal)

-- no check applies before memory is asked for, and the request may find none
pub record FindsNoMemory (old : State) (request : Request) : Type 0 where
  pub free : first_refusal (checks_of old request) ≡ None
  pub uncaused : HasNoCause (middle_checks_of old request)
  pub wants : wants_memory old request ≡ true

-- the request is refused with this, or finds no memory
abbrev pub IsStoppedBy : State → Request → Stop → Type 0
IsStoppedBy old request (stop.Refused refusal) = IsRefused old request refusal
IsStoppedBy old request stop.OutOfMemory = FindsNoMemory old request

-- no check applies to the request
pub record IsFree (old : State) (request : Request) : Type 0 where
  pub early : first_refusal (checks_of old request) ≡ None
  pub late : HasNoCause (late_checks_of old request)

-- A change is made where no check applies to it; or it is stopped, and then all is as before.
abbrev pub Changes : State → Change → Result (Unit {0}) Stop → State → Type 0
Changes old change result new = MatchResult result (λ done. IsFree old (request.Change change) × (new ≡ after old change)) (λ s. IsStoppedBy old (request.Change change) s × (new ≡ old))

-- the question is for the label of the cell
pub record AsksLabel (s : State) (query : Query) (cell : Cell) : Type 0 where
  pub net : List ℕ
  pub cycle : ℕ
  pub asks : query ≡ Label net cycle
  pub is : cell ≡ cell_of s.present net cycle

-- the question is for the first diagnoses, and these are they
pub record AsksFirst (s : State) (query : Query) (found : List (Set ℕ)) : Type 0 where
  pub number : ℕ
  pub asks : query ≡ First number
  pub are : AreFirstDiagnoses s.present number found

-- the question is for the best next measurement, and this is it, or there is none
pub record AsksProbe (s : State) (query : Query) (best : Option Probe) : Type 0 where
  pub asks : query ≡ asked.Probe
  pub is : MatchOption best (HasNoProbe s.present) (λ p. IsBestProbe s.present p.cell p.score p.total)

-- the question is how the fact follows, and the environment is the first of its label
pub record AsksExplain (s : State) (query : Query) (E : Set Place) (d : Derivation) : Type 0 where
  pub net : List ℕ
  pub cycle : ℕ
  pub value : ℕ
  pub asks : query ≡ Explain net cycle value
  pub first : IsFirstOfLabel s.present (fact (cell_of s.present net cycle) value) E
  pub canonical : IsCanonical (circuit_of s.present) E (Value (fact (cell_of s.present net cycle) value)) d

-- the question is why there is the conflict of a number, and the environment is the first nogood with its components
pub record AsksWhy (s : State) (query : Query) (E : Set Place) (d : Derivation) : Type 0 where
  pub number : ℕ
  pub asks : query ≡ Why number
  pub conflict : Set ℕ
  pub numbered : IsConflictNumber s.present number conflict
  pub first : IsFirstNogood s.present conflict E
  pub canonical : IsCanonical (circuit_of s.present) E Clash d

-- the answer is one to the question
abbrev pub Answers : State → Query → Answer → Type 0
Answers s query (answer.Label cell) = AsksLabel s query cell
Answers s query (answer.Conflicts found) = (query ≡ Conflicts) × AreConflicts (circuit_of s.present) (sets found)
Answers s query (answer.Diagnoses found) = ((query ≡ Diagnose) × AreDiagnoses (circuit_of s.present) (sets found)) ⊎ AsksFirst s query (sets found)
Answers s query (answer.Probe best) = AsksProbe s query best
Answers s query (answer.Explained under derivation) = AsksExplain s query (chosen_places under) (derivation_of derivation) ⊎ AsksWhy s query (chosen_places under) (derivation_of derivation)
Answers s query answer.Show = query ≡ Show

-- A question is answered where no check applies to it, or it is stopped.
abbrev pub Asked : State → Query → Result Answer Stop → Type 0
Asked s query result = MatchResult result (λ a. IsFree s (request.Query query) × Answers s query a) (IsStoppedBy s (request.Query query))
