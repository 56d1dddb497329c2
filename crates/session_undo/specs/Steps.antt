-- The step of a line, and the run of a session.
use Rattle.std.specs.Prelude.{◌≡◌, ◌⊎◌, ℕ, ◌-◌, ◌≤◌, ◌<◌, Bool, true, false, not, List, [], ◌++◌, codes, length, slice_get, Some, None, Result, Ok, Err}
use Rattle.circuit_model.specs.declared.model.Cell.{Cell}
use Rattle.circuit_model.specs.Closure.{fact}
use Rattle.circuit_model.specs.Present.{PresentView, circuit_of}
use Rattle.circuit_model.specs.Printed.{Labelled, IsPrintedLabel}
use Rattle.present_history.specs.Earlier.{some_measures}
use Rattle.bench_io.specs.declared.limits.TheConstants.{LONGEST_LINE}
use Rattle.netlist_text.specs.Grammar.{reading_of}
use Rattle.netlist_text.specs.Lookups.{cell_of}
use Rattle.netlist_text.specs.Show.{text_of}
use Rattle.netlist_text.specs.declared.faults.LineFault.{LineFault}
use Rattle.session_undo.specs.Replies.{Reply, Text, Refused, NoMemory}
use Rattle.circuit_model.specs.declared.model.Fact.{Fact}
use Rattle.circuit_model.specs.Derivation.{Derivation, Goal, Value, Clash, IsCanonical}
use Rattle.circuit_model.specs.Diagnoses.{Place, IsDiagnosis}
use Rattle.circuit_model.specs.Probe.{positions_in, AreConflicts, AreDiagnoses, IsBestProbe, HasNoProbe}
use Rattle.circuit_model.specs.Stock.{IsInLabel}
use Rattle.circuit_model.specs.Whole.{stock, order_of_present}
use Rattle.environment_sets.specs.Orders.{ComesBefore}
use Rattle.standing_view.specs.Conflicts.{IsFirstNogood}
use Rattle.environment_sets.specs.Costs.{ComesBeforeByCost}
use Rattle.environment_sets.specs.Sets.{Set}
use Rattle.first_diagnoses.specs.First.{AreFirst}
use Rattle.answer_text.specs.Texts.{label_lines, components_lines, probe_line, no_probe_line}
use Rattle.answer_text.specs.Derivations.{under_line, derivation_lines}
use Rattle.session_undo.specs.Checks.{checks_of, first_refusal, middle_checks_of, late_checks_of, IsFirstCause, HasNoCause}
pub use Rattle.session_undo.specs.Presents.{State, empty}
use Rattle.session_undo.specs.Presents.{after}
use Rattle.session_undo.specs.declared.refusals.Refusal.{Refusal}
use Rattle.session_undo.specs.declared.refusals.Refusal.TheVariants.{LineTooLong, Unreadable}
use Rattle.netlist_text.specs.declared.requests.Change.TheVariants.{Net, Add, Measure, Cycles, Retract, Undo, Cost, Stuck, Acts, Define, Pin, Inside, UseBlock}
use Rattle.netlist_text.specs.declared.requests.Query.{Query}
use Rattle.netlist_text.specs.declared.requests.Query.TheVariants.{Label, Conflicts, Diagnose, Probe, Explain, Why, Show, First, Modes, OpenBlock}
use Rattle.netlist_text.specs.declared.requests.Request.{Request}
use Rattle.netlist_text.specs.declared.requests.Request.TheVariants as request

-- the text is the printed label of the cell, a line for each word and environment, and `ok`
pub record IsLabelReply (s : PresentView) (c : Cell) (text : List ℕ) : Type 0 where
  pub label : List Labelled
  pub exact : IsPrintedLabel s c label
  pub lines : text ≡ label_lines s c label ++ codes "ok\n"

-- the text lists sets of components of which this holds, a line for each, and `ok`
pub record IsSetsReply (s : PresentView) (Are : List (Set ℕ) → Type 0) (text : List ℕ) : Type 0 where
  pub sets : List (Set ℕ)
  pub are : Are sets
  pub lines : text ≡ components_lines s sets ++ codes "ok\n"

-- the text is the line of the best next measurement, or that there is none, and `ok`
pub data IsProbeReply (s : PresentView) (text : List ℕ) : Type 0 where
  Best : (c : Cell) (score total : ℕ) → IsBestProbe s c score total → text ≡ probe_line s c score total ++ codes "ok\n" → IsProbeReply s text
  NoProbe : HasNoProbe s → text ≡ no_probe_line ++ codes "ok\n" → IsProbeReply s text

-- the text is the environment, the canonical derivation of the goal under it, and `ok`
pub record IsDerivationReply (s : PresentView) (E : Set Place) (goal : Goal) (text : List ℕ) : Type 0 where
  pub derivation : Derivation
  pub canonical : IsCanonical (circuit_of s) E goal derivation
  pub lines : text ≡ under_line s E ++ derivation_lines s derivation ++ codes "ok\n"

-- the first environment of the fact's label, in order
pub record IsFirstOfLabel (s : PresentView) (f : Fact) (E : Set Place) : Type 0 where
  pub member : IsInLabel (stock s) f E
  pub first : (F : Set Place) → IsInLabel (stock s) f F → (E ≡ F) ⊎ ComesBefore (order_of_present s) E F

-- how the fact follows from the first environment of its label
pub record IsExplainReply (s : PresentView) (f : Fact) (text : List ℕ) : Type 0 where
  pub environment : Set Place
  pub first : IsFirstOfLabel s f environment
  pub told : IsDerivationReply s environment (Value f) text

-- the conflict of this number, counted from 1, in order
pub record IsConflictNumber (s : PresentView) (number : ℕ) (C : Set ℕ) : Type 0 where
  pub conflicts : List (Set ℕ)
  pub are : AreConflicts (circuit_of s) conflicts
  pub counted : 1 ≤ number
  pub at : slice_get conflicts (number - 1) ≡ Some C

-- how the first nogood with exactly the components of the conflict of this number clashes
pub record IsWhyReply (s : PresentView) (number : ℕ) (text : List ℕ) : Type 0 where
  pub conflict : Set ℕ
  pub numbered : IsConflictNumber s number conflict
  pub environment : Set Place
  pub first : IsFirstNogood s conflict environment
  pub told : IsDerivationReply s environment Clash text

-- the first so many diagnoses by cost, or all where there are fewer
abbrev pub AreFirstDiagnoses : PresentView → ℕ → List (Set ℕ) → Type 0
AreFirstDiagnoses s number = AreFirst (ComesBeforeByCost (positions_in (circuit_of s)) (circuit_of s).costs) (IsDiagnosis (circuit_of s)) number

-- The text is the answer to the question. One that is not built has none.
abbrev pub IsAnswer : PresentView → Query → List ℕ → Type 0
IsAnswer s (Label net cycle) text = IsLabelReply s (cell_of s net cycle) text
IsAnswer s Conflicts text = IsSetsReply s (AreConflicts (circuit_of s)) text
IsAnswer s Diagnose text = IsSetsReply s (AreDiagnoses (circuit_of s)) text
IsAnswer s Probe text = IsProbeReply s text
IsAnswer s (Explain net cycle value) text = IsExplainReply s (fact (cell_of s net cycle) value) text
IsAnswer s (Why number) text = IsWhyReply s number text
IsAnswer s Show text = text ≡ text_of s
IsAnswer s (First number) text = IsSetsReply s (AreFirstDiagnoses s number) text
IsAnswer s (Modes number) text = ⊥
IsAnswer s (OpenBlock name) text = ⊥

-- what a request is answered to which no check applies, and the state after it
abbrev pub Does : State → Request → Reply → State → Type 0
Does old request.Nothing reply new = (reply ≡ Text []) × (new ≡ old)
Does old (request.Change change) reply new = (reply ≡ Text (codes "ok\n")) × (new ≡ after old change)
Does old (request.Query query) reply new = (text : List ℕ) × (reply ≡ Text text) × IsAnswer old.present query text × (new ≡ old)

-- the line is not too long, and reads as this
pub record Reads (line : List ℕ) (reading : Result Request LineFault) : Type 0 where
  pub short : length line ≤ LONGEST_LINE
  pub reads : reading_of line ≡ reading

-- The step of a line: its reply, where that isn't want of memory, and the state after it.
pub data Step (old : State) (line : List ℕ) (reply : Reply) (new : State) : Type 0 where
  too_long : LONGEST_LINE < length line → reply ≡ Refused LineTooLong → new ≡ old → Step old line reply new
  unreadable : (fault : LineFault) → Reads line (Err fault) → reply ≡ Refused (Unreadable fault) → new ≡ old → Step old line reply new
  refused : (request : Request) → Reads line (Ok request) → (refusal : Refusal) → first_refusal (checks_of old request) ≡ Some refusal → reply ≡ Refused refusal → new ≡ old → Step old line reply new
  refused_late : (request : Request) → Reads line (Ok request) → first_refusal (checks_of old request) ≡ None → (refusal : Refusal) → IsFirstCause (late_checks_of old request) refusal
      → reply ≡ Refused refusal → new ≡ old → Step old line reply new
  served : (request : Request) → Reads line (Ok request) → first_refusal (checks_of old request) ≡ None → HasNoCause (late_checks_of old request) → Does old request reply new → Step old line reply new

-- The request may find no memory. A measurement that stands in an earlier present is remembered, and takes none.
abbrev pub wants_memory : State → Request → Bool
wants_memory s request.Nothing = false
wants_memory s (request.Change (Net name width)) = true
wants_memory s (request.Change (Add name kind nets)) = true
wants_memory s (request.Change (Measure net cycle value)) = not (some_measures s.earlier (fact (cell_of s.present net cycle) value))
wants_memory s (request.Change (Cycles count)) = false
wants_memory s (request.Change (Retract net cycle)) = false
wants_memory s (request.Change Undo) = false
wants_memory s (request.Change (Cost name cost)) = false
wants_memory s (request.Change (Stuck name value cost)) = true
wants_memory s (request.Change (Acts name kind cost)) = true
wants_memory s (request.Change (Define block)) = true
wants_memory s (request.Change (Pin block name width)) = true
wants_memory s (request.Change (Inside block name kind nets)) = true
wants_memory s (request.Change (UseBlock block name nets)) = true
wants_memory s (request.Query (Label net cycle)) = false
wants_memory s (request.Query Conflicts) = true
wants_memory s (request.Query Diagnose) = true
wants_memory s (request.Query Probe) = true
wants_memory s (request.Query (Explain net cycle value)) = true
wants_memory s (request.Query (Why number)) = true
wants_memory s (request.Query Show) = false
wants_memory s (request.Query (First number)) = true
wants_memory s (request.Query (Modes number)) = false
wants_memory s (request.Query (OpenBlock name)) = false

-- The line may find no memory: it asks what may want it, and no check applies that comes before.
pub record MayWant (old : State) (line : List ℕ) : Type 0 where
  pub request : Request
  pub asks : Reads line (Ok request)
  pub free : first_refusal (checks_of old request) ≡ None
  pub uncaused : HasNoCause (middle_checks_of old request)
  pub wants : wants_memory old request ≡ true

-- one line, whatever it is answered
abbrev pub Takes : State → List ℕ → Reply → State → Type 0
Takes old line NoMemory new = MayWant old line × (new ≡ old)
Takes old line (Text text) new = Step old line (Text text) new
Takes old line (Refused refusal) new = Step old line (Refused refusal) new
