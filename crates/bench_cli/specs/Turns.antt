-- One turn of a session, and what was done so far.
use Rattle.std.specs.Prelude.{◌≡◌, ◌⊎◌, ℕ, ◌+◌, ◌≤◌, Bool, true, false, ◌||◌, List, [], ◌∷◌, ◌++◌, length, Option, Result, Ok, Err}
use Rattle.std.specs.Io.KnownBytes.{Appends, Consumes, IsAtEnd}
use Rattle.bench_io.specs.Causes.{Rose}
use Rattle.bench_io.specs.Lines.{HasNoNewline, lines_of, whole_lines_of}
use Rattle.bench_io.specs.Reading.{Reading, Begins}
use Rattle.bench_io.specs.Streams.{Telling}
use Rattle.bench_io.specs.declared.limits.TheConstants.{MOST_BYTES, BUFFER_ROOM}
use Rattle.bench_cli.specs.Answering.{IsReply, IsWritable}
use Rattle.session_undo.specs.Replies.{Reply}
use Rattle.bench_cli.specs.Replies.{Exchange, is_refused, is_no_memory, lines_of_exchanges, has_refused, has_no_memory, transcript}
use Rattle.session_undo.specs.Presents.{State, empty}
use Rattle.session_undo.specs.Steps.{Takes}
use Rattle.bench_cli.specs.Runs.{Run}
use Rattle.bench_cli.specs.Statuses.{status_by}
use Rattle.bench_cli.specs.declared.Status.{Status}
use Rattle.bench_cli.specs.declared.Status.TheVariants.{ReadFault, TooMuch}
use Rattle.bench_cli.specs.declared.turn.LineAnswer.{LineAnswer}
use Rattle.bench_cli.specs.declared.session.Ending.{Ending}
use Rattle.bench_cli.specs.declared.session.Ending.TheVariants as ending
use Rattle.bench_cli.specs.declared.session.Tally.{Tally}

-- what was answered so far, after one reply more
abbrev pub tally_after : Tally → Reply → Tally
tally_after t reply = record { refused = t.refused || is_refused reply; no_memory = t.no_memory || is_no_memory reply }

-- the status of a session that was read to its end, by what was answered
abbrev pub status_of : Tally → Status
status_of t = status_by t.no_memory t.refused

-- the status of a session that ends so
abbrev pub status_at : Ending → Tally → Status
status_at ending.End t = status_of t
status_at ending.Failed t = ReadFault
status_at ending.TooMuch t = TooMuch

-- A line was read and answered, by each reply that the answer stands for. The bytes are those that were held or taken.
pub record Answered (bytes : List ℕ) (reader : Reading) (before now : State) (left : Option (List ℕ)) (answer : LineAnswer) : Type 0 where
  pub line : List ℕ
  pub begins : Begins bytes line left reader
  pub takes : (reply : Reply) → IsReply now answer reply → Takes before line reply now

-- what each answer of a step says
abbrev pub StepAnswers : (bytes : List ℕ) (first reader : Reading) (before now : State) (left : Option (List ℕ)) → Result LineAnswer Ending → Type 0
StepAnswers bytes first reader before now left (Ok answer) =
    (first.has_ended ≡ false) × Answered bytes reader before now left answer × IsWritable now answer
StepAnswers bytes first reader before now left (Err ending.End) =
    (bytes ≡ []) × ((first.has_ended ≡ true) ⊎ IsAtEnd left) × (reader.taken ≤ MOST_BYTES)
StepAnswers bytes first reader before now left (Err ending.Failed) =
    (first.has_ended ≡ false) × HasNoNewline bytes × (reader.taken ≤ MOST_BYTES)
StepAnswers bytes first reader before now left (Err ending.TooMuch) =
    (first.has_ended ≡ false) × (front : List ℕ) × (last : ℕ) × (bytes ≡ front ++ last ∷ []) × HasNoNewline front × (reader.taken ≡ MOST_BYTES + 1)

-- The count rises where a read failed, and stays at each other answer.
abbrev pub CountsEnding : ℕ → ℕ → Result LineAnswer Ending → Type 0
CountsEnding before now (Ok answer) = now ≡ before
CountsEnding before now (Err ending.End) = now ≡ before
CountsEnding before now (Err ending.Failed) = Rose before now
CountsEnding before now (Err ending.TooMuch) = now ≡ before

-- A line was read and its step was taken, or the session ends.
pub record Steps (first reader : Reading) (before now : State) (source_before source_now : Telling) (result : Result LineAnswer Ending) : Type 0 where
  pub read : List ℕ
  pub consumed : Consumes source_before.bytes source_now.bytes read
  pub taken : reader.taken ≡ first.taken + length read
  pub room : length reader.held ≤ BUFFER_ROOM
  pub later : source_before.faults ≤ source_now.faults
  pub cause : CountsEnding source_before.faults source_now.faults result
  pub answer : StepAnswers (first.held ++ read) first reader before now source_now.bytes result

-- These bytes are these lines, whatever follows, unless they end the input.
pub record Cuts (consumed : List ℕ) (lines : List (List ℕ)) (ended : Bool) : Type 0 where
  pub all : ended ≡ false → (x : List ℕ) → lines_of (consumed ++ x) ≡ lines ++ lines_of x
  pub whole : ended ≡ false → (x : List ℕ) → whole_lines_of (consumed ++ x) ≡ lines ++ whole_lines_of x
  pub at_end : ended ≡ true → lines_of consumed ≡ lines

-- what was read so far, and the run that its lines made
pub record ReadSofar (exchanges : List Exchange) (source_before source_now : Telling) (reader : Reading) (state : State) : Type 0 where
  pub run : Run empty exchanges state
  pub given : List ℕ
  pub consumed : Consumes source_before.bytes source_now.bytes (given ++ reader.held)
  pub cuts : Cuts given (lines_of_exchanges exchanges) reader.has_ended
  pub taken : reader.taken ≡ length (given ++ reader.held)
  pub within : reader.taken ≤ MOST_BYTES
  pub goes_on : reader.is_over ≡ false
  pub room : length reader.held ≤ BUFFER_ROOM
  pub ended : reader.has_ended ≡ true → (reader.held ≡ []) × IsAtEnd source_now.bytes
  pub kept : source_now.faults ≡ source_before.faults

-- what was read, answered and written so far
pub record Sofar (source_before source_now sink_before sink_now : Telling) (reader : Reading) (state : State) (tally : Tally) : Type 0 where
  pub exchanges : List Exchange
  pub read : ReadSofar exchanges source_before source_now reader state
  pub written : Appends sink_before.bytes sink_now.bytes (transcript exchanges)
  pub kept : sink_now.faults ≡ sink_before.faults
  pub refused : tally.refused ≡ has_refused exchanges
  pub no_memory : tally.no_memory ≡ has_no_memory exchanges
