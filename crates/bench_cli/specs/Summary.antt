-- The summary of generated polyboxes.
use Rattle.std.specs.Prelude.{◌≡◌, ◌⊎◌, ℕ, ◌<◌, ◌≤◌, Bool, false, ◌||◌, List, [], ◌∷◌, ◌++◌, codes, decimal, Option, Result, Ok, Err, MatchOption, MatchResult}
use Rattle.std.specs.Io.KnownBytes.{Appends}
use Rattle.answer_text.specs.Texts.{probe_line, no_probe_line, best_line}
use Rattle.bench_io.specs.Causes.{Rose}
use Rattle.bench_io.specs.Streams.{Telling}
use Rattle.circuit_model.specs.declared.model.Cell.{Cell}
use Rattle.circuit_model.specs.Diagnoses.{IsConflict, IsDiagnosis}
use Rattle.circuit_model.specs.Present.{PresentView, circuit_of}
use Rattle.circuit_model.specs.Probe.{IsBestProbe, HasNoProbe}
use Rattle.environment_sets.specs.Counts.{AreSoMany}
use Rattle.netlist_text.specs.declared.requests.Change.{Change}
use Rattle.netlist_text.specs.declared.requests.Query.{Query}
use Rattle.netlist_text.specs.declared.requests.Query.TheVariants.{Conflicts, Diagnose, Probe}
use Rattle.netlist_text.specs.declared.requests.Request.TheVariants as request
use Rattle.probe_planner.specs.declared.planner.Probe as planner
use Rattle.session_undo.specs.Presents.{State, empty, after}
use Rattle.session_undo.specs.Replies.{Reply, Text, Refused, NoMemory, text_of}
use Rattle.session_undo.specs.Serving.{IsFree, IsRefused, IsStoppedBy, FindsNoMemory}
use Rattle.session_undo.specs.declared.refusals.Refusal.{Refusal}
use Rattle.session_undo.specs.declared.refusals.Stop.{Stop}
use Rattle.session_undo.specs.declared.refusals.Stop.TheVariants as stop
use Rattle.workload_maker.specs.Boxes.{boxes}
use Rattle.workload_maker.specs.declared.making.TheConstants.{MOST_BOXES}
use Rattle.bench_cli.specs.Replies.{is_refused, is_no_memory}
use Rattle.bench_cli.specs.Statuses.{status_by}
use Rattle.bench_cli.specs.declared.Status.{Status}
use Rattle.bench_cli.specs.declared.Status.TheVariants as ends
use Rattle.bench_cli.specs.declared.making.Findings.{Findings}

-- no check applies to any of the changes, each after those before it, and this is the state after them
abbrev pub Accepts : State → List Change → State → Type 0
Accepts old [] new = new ≡ old
Accepts old (change ∷ changes) new = IsFree old (request.Change change) × Accepts (after old change) changes new

-- one of the changes is refused with this, and no check applies to those before it
abbrev pub Refuses : State → List Change → Refusal → Type 0
Refuses s [] refusal = ⊥
Refuses s (change ∷ changes) refusal = IsRefused s (request.Change change) refusal ⊎ (IsFree s (request.Change change) × Refuses (after s change) changes refusal)

-- a word and a number
abbrev pub count_line : (word : List ℕ) (count : ℕ) → List ℕ
count_line word count = word ++ codes " " ++ decimal count ++ codes "\n"

-- the line says how many there are of which this holds
pub record SaysCount {X : Type 0} (word : List ℕ) (P : X → Type 0) (line : List ℕ) : Type 0 where
  pub count : ℕ
  pub counted : AreSoMany P count
  pub text : line ≡ count_line word count

-- the line says which is the best next measurement, or that there is none
pub data SaysProbe (s : PresentView) (line : List ℕ) : Type 0 where
  Best : (c : Cell) (score total : ℕ) → IsBestProbe s c score total → line ≡ probe_line s c score total → SaysProbe s line
  NoProbe : HasNoProbe s → line ≡ no_probe_line → SaysProbe s line

-- the reply to a question: a line that says this where no check applies, or its refusal, or want of memory
abbrev pub IsLineFor : State → Query → (List ℕ → Type 0) → Reply → Type 0
IsLineFor s query Says (Text line) = IsFree s (request.Query query) × Says line
IsLineFor s query Says (Refused refusal) = IsRefused s (request.Query query) refusal
IsLineFor s query Says NoMemory = FindsNoMemory s (request.Query query)

-- the number of boxes, and what the questions are answered
pub record AnswersQuestions (s : State) (count : ℕ) (replies : List Reply) : Type 0 where
  pub conflicts : Reply
  pub diagnoses : Reply
  pub probe : Reply
  pub each : replies ≡ Text (count_line (codes "boxes") count) ∷ conflicts ∷ diagnoses ∷ probe ∷ []
  pub of_conflicts : IsLineFor s Conflicts (SaysCount (codes "conflicts") (IsConflict (circuit_of s.present))) conflicts
  pub of_diagnoses : IsLineFor s Diagnose (SaysCount (codes "diagnoses") (IsDiagnosis (circuit_of s.present))) diagnoses
  pub of_probe : IsLineFor s Probe (SaysProbe s.present) probe

-- The replies of the summary of so many boxes by the seed: there was no memory for the boxes; or one of their lines is
-- refused; or all are accepted by a fresh bench, and the questions are answered.
pub data IsSummary (count seed : ℕ) (replies : List Reply) : Type 0 where
  Unmade : replies ≡ NoMemory ∷ [] → IsSummary count seed replies
  Stopped : (refusal : Refusal) → Refuses empty (boxes count seed) refusal → replies ≡ Refused refusal ∷ [] → IsSummary count seed replies
  Made : (s : State) → Accepts empty (boxes count seed) s → AnswersQuestions s count replies → IsSummary count seed replies

-- the texts of the replies, one after another
abbrev pub texts_of : List Reply → List ℕ
texts_of [] = []
texts_of (reply ∷ replies) = text_of reply ++ texts_of replies

-- some reply is the refusal for want of memory
abbrev pub want_memory : List Reply → Bool
want_memory [] = false
want_memory (reply ∷ replies) = is_no_memory reply || want_memory replies

-- some reply is another refusal
abbrev pub are_refused : List Reply → Bool
are_refused [] = false
are_refused (reply ∷ replies) = is_refused reply || are_refused replies

-- the status of these replies
abbrev pub status_of : List Reply → Status
status_of replies = status_by (want_memory replies) (are_refused replies)

-- all the replies were written, and the status is theirs
pub record TellsAll (status : Status) (replies : List Reply) (before now : Option (List ℕ)) : Type 0 where
  pub by_replies : status ≡ status_of replies
  pub written : Appends before now (texts_of replies)

-- The replies were written, or a front of them where a write failed.
abbrev pub Tells : Status → List Reply → (before now : Option (List ℕ)) → Type 0
Tells ends.Done replies before now = TellsAll ends.Done replies before now
Tells ends.SomeRefused replies before now = TellsAll ends.SomeRefused replies before now
Tells ends.NoMemory replies before now = TellsAll ends.NoMemory replies before now
Tells ends.WriteFault replies before now = (front rest : List ℕ) × (texts_of replies ≡ front ++ rest) × Appends before now front
Tells ends.Usage replies before now = ⊥
Tells ends.ReadFault replies before now = ⊥
Tells ends.TooMuch replies before now = ⊥

-- The summary of so many boxes by the seed was told, as the status says.
pub record Summarizes (status : Status) (count seed : ℕ) (before now : Option (List ℕ)) : Type 0 where
  pub replies : List Reply
  pub is : IsSummary count seed replies
  pub told : Tells status replies before now

-- The replies were told as the status says, and a write failed just where it says so.
pub record EndsWith (status : Status) (replies : List Reply) (before now : Telling) : Type 0 where
  pub told : Tells status replies before.bytes now.bytes
  pub write_fault : status ≡ ends.WriteFault → Rose before.faults now.faults
  pub write_counted : before.faults < now.faults → status ≡ ends.WriteFault
  pub later : before.faults ≤ now.faults

-- so many boxes can be made
abbrev pub CanBeMade : ℕ → Type 0
CanBeMade count = (1 ≤ count) × (count ≤ MOST_BOXES)

-- one of the changes is refused with this, or finds no memory
abbrev pub StopsWith : State → List Change → Stop → Type 0
StopsWith s changes (stop.Refused refusal) = Refuses s changes refusal
StopsWith s changes stop.OutOfMemory = Unit {0}

-- all changes were accepted, or one was stopped
abbrev pub ChangesAll : State → List Change → Result (Unit {0}) Stop → State → Type 0
ChangesAll old changes result new = MatchResult result (λ done. Accepts old changes new) (StopsWith old changes)

-- the state after the boxes, or what stopped them
abbrev pub RunsBoxes : (count seed : ℕ) → Result State Stop → Type 0
RunsBoxes count seed result = MatchResult result (Accepts empty (boxes count seed)) (StopsWith empty (boxes count seed))

-- what the question was answered, or what stopped it
abbrev pub Finds : {X : Type 0} → State → Query → (X → Type 0) → Result X Stop → Type 0
Finds s query P result = MatchResult result (λ x. IsFree s (request.Query query) × P x) (IsStoppedBy s (request.Query query))

-- the best next measurement of the present, or that it has none
abbrev pub IsBest : PresentView → Option planner.Probe → Type 0
IsBest s best = MatchOption best (HasNoProbe s) (λ p. IsBestProbe s p.cell p.score p.total)

-- what the questions were answered in the state
pub record AreFindings (s : State) (findings : Findings) : Type 0 where
  pub conflicts : Finds s Conflicts (AreSoMany (IsConflict (circuit_of s.present))) findings.conflicts
  pub diagnoses : Finds s Diagnose (AreSoMany (IsDiagnosis (circuit_of s.present))) findings.diagnoses
  pub best : Finds s Probe (IsBest s.present) findings.best

-- the reply of what was stopped
abbrev pub reply_for : Stop → Reply
reply_for (stop.Refused refusal) = Refused refusal
reply_for stop.OutOfMemory = NoMemory

-- the reply that tells how many there are
abbrev pub count_reply : (word : List ℕ) → Result ℕ Stop → Reply
count_reply word (Ok count) = Text (count_line word count)
count_reply word (Err stopped) = reply_for stopped

-- the reply that tells where to measure next
abbrev pub probe_reply : PresentView → Result (Option planner.Probe) Stop → Reply
probe_reply s (Ok best) = Text (best_line s best)
probe_reply s (Err stopped) = reply_for stopped

-- the replies that tell the findings
abbrev pub replies_of : PresentView → ℕ → Findings → List Reply
replies_of s count findings =
    Text (count_line (codes "boxes") count) ∷ count_reply (codes "conflicts") findings.conflicts
    ∷ count_reply (codes "diagnoses") findings.diagnoses ∷ probe_reply s findings.best ∷ []

-- the question found no memory
abbrev pub found_no_memory : {X : Type 0} → Result X Stop → Bool
found_no_memory (Ok x) = false
found_no_memory (Err stopped) = is_no_memory (reply_for stopped)

-- the question was refused
abbrev pub was_refused : {X : Type 0} → Result X Stop → Bool
was_refused (Ok x) = false
was_refused (Err stopped) = is_refused (reply_for stopped)

-- the status of a summary that tells the findings
abbrev pub status_of_findings : Findings → Status
status_of_findings f = status_by
    (found_no_memory f.conflicts || found_no_memory f.diagnoses || found_no_memory f.best)
    (was_refused f.conflicts || was_refused f.diagnoses || was_refused f.best)

-- the status of a summary whose only line tells what stopped the boxes
abbrev pub status_of_stop : Stop → Status
status_of_stop (stop.Refused refusal) = ends.SomeRefused
status_of_stop stop.OutOfMemory = ends.NoMemory
