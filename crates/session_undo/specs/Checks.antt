-- The checks of requests.
use Rattle.std.specs.Prelude.{◌≡◌, ◌⊎◌, ℕ, ◌^◌, ◌<◌, nat_lt, nat_le, Bool, true, ◌&&◌, ◌==◌, not, length, if◌then◌else◌, List, [], ◌∷◌, ◌++◌, map, Option, Some, None}
use Rattle.circuit_model.specs.Closure.{fact}
use Rattle.circuit_model.specs.Diagnoses.{Place, IsConflict}
use Rattle.circuit_model.specs.Present.{PresentView, circuit_of, width_of}
use Rattle.circuit_model.specs.Stock.{IsInLabel}
use Rattle.circuit_model.specs.Whole.{stock}
use Rattle.circuit_model.specs.declared.model.Fact.{Fact}
use Rattle.environment_sets.specs.Counts.{AreSoMany}
use Rattle.environment_sets.specs.Sets.{Set}
use Rattle.circuit_model.specs.Probe.{HasMoreDiagnosesThan}
use Rattle.circuit_model.specs.declared.limits.TheConstants.{MOST_ASKED, MOST_DIAGNOSES}
use Rattle.netlist_text.specs.Checks as placing
use Rattle.netlist_text.specs.Lookups.{cell_of, net_place}
use Rattle.netlist_text.specs.Placing.{changed}
use Rattle.netlist_text.specs.declared.misfits.Misfit.TheVariants as misfit
use Rattle.netlist_text.specs.declared.requests.Query.{Query}
use Rattle.standing_changes.specs.Load.{IsOverloaded}
use Rattle.netlist_text.specs.declared.requests.Change.{Change}
use Rattle.netlist_text.specs.declared.requests.Change.TheVariants.{Net, Add, Measure, Cycles, Retract, Undo, Cost, Stuck, Acts, Define, Pin, Inside, UseBlock}
use Rattle.netlist_text.specs.declared.requests.Query.TheVariants.{Label, Conflicts, Diagnose, Probe, Explain, Why, Show, First, Modes, OpenBlock}
use Rattle.netlist_text.specs.declared.requests.Request.{Request}
use Rattle.netlist_text.specs.declared.requests.Request.TheVariants as request
use Rattle.session_undo.specs.Presents.{State}
use Rattle.session_undo.specs.declared.refusals.Refusal.{Refusal}
use Rattle.session_undo.specs.declared.refusals.Refusal.TheVariants.{Misfit, NothingToUndo, NoSuchValue, NoSuchConflict, LoadTooLarge, TooManyDiagnoses, BadCount, NotBuilt}

-- a refusal, and whether it applies
pub record Check : Type 0 where
  pub refusal : Refusal
  pub applies : Bool

-- the refusal applies where the test is true
abbrev pub check : Refusal → Bool → Check
check refusal applies = record { refusal = refusal; applies = applies }

-- the refusal of the first check that applies
abbrev pub first_refusal : List Check → Option Refusal
first_refusal [] = None
first_refusal (c ∷ checks) = if c.applies then Some c.refusal else first_refusal checks

-- a check on a present, as one of a line
abbrev pub of_present : placing.Check → Check
of_present c = check (Misfit c.misfit) c.applies

-- the checks on a present, in their order
abbrev pub of_each : List placing.Check → List Check
of_each checks = map of_present checks

-- so many answers
abbrev pub checks_of_count : ℕ → List Check
checks_of_count number = check BadCount (not (nat_lt 0 number && nat_le number MOST_ASKED)) ∷ []

-- a word at the cell of the net with the name at the cycle
abbrev pub checks_of_value : State → List ℕ → ℕ → ℕ → List Check
checks_of_value s net cycle value =
    of_each (placing.checks_of_cell s.present net cycle)
    ++ check (Misfit misfit.ValueDoesNotFit) (not (nat_lt value (2 ^ width_of s.present (net_place s.present net)))) ∷ []

-- what is not answered yet
abbrev pub not_built : List Check
not_built = check NotBuilt true ∷ []

-- there is an earlier present
abbrev pub checks_of_undo : State → List Check
checks_of_undo s = check NothingToUndo (length s.earlier == 0) ∷ []

-- The checks of a change before it asks for memory, in order: those on the present, and for `undo` that on the earlier ones.
abbrev pub checks_of_change : State → Change → List Check
checks_of_change s (Cycles count) = of_each (placing.checks_of_change s.present (Cycles count))
checks_of_change s (Net name width) = of_each (placing.checks_of_change s.present (Net name width))
checks_of_change s (Add name kind nets) = of_each (placing.checks_of_change s.present (Add name kind nets))
checks_of_change s (Cost name cost) = of_each (placing.checks_of_change s.present (Cost name cost))
checks_of_change s (Measure net cycle value) = of_each (placing.checks_of_change s.present (Measure net cycle value))
checks_of_change s (Retract net cycle) = of_each (placing.checks_of_change s.present (Retract net cycle))
checks_of_change s Undo = checks_of_undo s
checks_of_change s (Stuck name value cost) = of_each (placing.checks_of_change s.present (Stuck name value cost))
checks_of_change s (Acts name kind cost) = of_each (placing.checks_of_change s.present (Acts name kind cost))
checks_of_change s (Define block) = of_each (placing.checks_of_change s.present (Define block))
checks_of_change s (Pin block name width) = of_each (placing.checks_of_change s.present (Pin block name width))
checks_of_change s (Inside block name kind nets) = of_each (placing.checks_of_change s.present (Inside block name kind nets))
checks_of_change s (UseBlock block name nets) = of_each (placing.checks_of_change s.present (UseBlock block name nets))

-- The checks of a request before it asks for memory, in order.
abbrev pub checks_of : State → Request → List Check
checks_of s request.Nothing = []
checks_of s (request.Change change) = checks_of_change s change
checks_of s (request.Query (Label net cycle)) = of_each (placing.checks_of_cell s.present net cycle)
checks_of s (request.Query Conflicts) = []
checks_of s (request.Query Diagnose) = []
checks_of s (request.Query Probe) = []
checks_of s (request.Query (Explain net cycle value)) = checks_of_value s net cycle value
checks_of s (request.Query (Why number)) = []
checks_of s (request.Query Show) = []
checks_of s (request.Query (First number)) = checks_of_count number
checks_of s (request.Query (Modes number)) = not_built
checks_of s (request.Query (OpenBlock name)) = not_built

-- a refusal, and its cause, which no truth value computes
pub record LateCheck : Type 1 where
  pub refusal : Refusal
  pub Cause : Type 0

-- the refusal for the cause
abbrev pub late : Refusal → Type 0 → LateCheck
late refusal Cause = record { refusal = refusal; Cause = Cause }

-- no environment is in the label of the fact
abbrev pub HasNoLabel : PresentView → Fact → Type 0
HasNoLabel s f = (E : Set Place) → IsInLabel (stock s) f E → ⊥

-- there are fewer conflicts than the number, or it is 0
pub record LacksConflict (s : PresentView) (number : ℕ) : Type 0 where
  pub count : ℕ
  pub counted : AreSoMany (IsConflict (circuit_of s)) count
  pub outside : (number ≡ 0) ⊎ (count < number)

-- The checks of a question before it asks for memory that look at what follows.
abbrev pub checks_of_label : State → Query → List LateCheck
checks_of_label s (Label net cycle) = []
checks_of_label s Conflicts = []
checks_of_label s Diagnose = []
checks_of_label s Probe = []
checks_of_label s (Explain net cycle value) = late NoSuchValue (HasNoLabel s.present (fact (cell_of s.present net cycle) value)) ∷ []
checks_of_label s (Why number) = []
checks_of_label s Show = []
checks_of_label s (First number) = []
checks_of_label s (Modes number) = []
checks_of_label s (OpenBlock name) = []

-- the same of a request
abbrev pub middle_checks_of : State → Request → List LateCheck
middle_checks_of s request.Nothing = []
middle_checks_of s (request.Change change) = []
middle_checks_of s (request.Query query) = checks_of_label s query

-- the load of the present after the change is above the most
abbrev pub checks_of_load : State → Change → List LateCheck
checks_of_load s change = late LoadTooLarge (IsOverloaded (changed s.present change)) ∷ []

-- The checks of a request that look at what follows, after all others, in order. Those of `middle_checks_of` come before
-- memory is asked for, the others after it.
abbrev pub late_checks_of : State → Request → List LateCheck
late_checks_of s request.Nothing = []
late_checks_of s (request.Change (Net name width)) = []
late_checks_of s (request.Change (Add name kind nets)) = checks_of_load s (Add name kind nets)
late_checks_of s (request.Change (Measure net cycle value)) = checks_of_load s (Measure net cycle value)
late_checks_of s (request.Change (Cycles count)) = []
late_checks_of s (request.Change (Retract net cycle)) = []
late_checks_of s (request.Change Undo) = []
late_checks_of s (request.Change (Cost name cost)) = []
late_checks_of s (request.Change (Stuck name value cost)) = []
late_checks_of s (request.Change (Acts name kind cost)) = []
late_checks_of s (request.Change (Define block)) = []
late_checks_of s (request.Change (Pin block name width)) = []
late_checks_of s (request.Change (Inside block name kind nets)) = []
late_checks_of s (request.Change (UseBlock block name nets)) = checks_of_load s (UseBlock block name nets)
late_checks_of s (request.Query (Label net cycle)) = []
late_checks_of s (request.Query Conflicts) = []
late_checks_of s (request.Query Diagnose) = late TooManyDiagnoses (HasMoreDiagnosesThan MOST_DIAGNOSES (circuit_of s.present)) ∷ []
late_checks_of s (request.Query Probe) = late TooManyDiagnoses (HasMoreDiagnosesThan MOST_DIAGNOSES (circuit_of s.present)) ∷ []
late_checks_of s (request.Query (Explain net cycle value)) = checks_of_label s (Explain net cycle value)
late_checks_of s (request.Query (Why number)) = late NoSuchConflict (LacksConflict s.present number) ∷ []
late_checks_of s (request.Query Show) = []
late_checks_of s (request.Query (First number)) = []
late_checks_of s (request.Query (Modes number)) = []
late_checks_of s (request.Query (OpenBlock name)) = []

-- the first of the causes that there is refuses with this
abbrev pub IsFirstCause : List LateCheck → Refusal → Type 0
IsFirstCause [] refusal = ⊥
IsFirstCause (c ∷ checks) refusal = (c.Cause × (refusal ≡ c.refusal)) ⊎ ((c.Cause → ⊥) × IsFirstCause checks refusal)

-- there is none of the causes
abbrev pub HasNoCause : List LateCheck → Type 0
HasNoCause [] = Unit {0}
HasNoCause (c ∷ checks) = (c.Cause → ⊥) × HasNoCause checks
