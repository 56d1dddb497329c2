-- What a whole session reads and writes, and the status that it ends with.
use Rattle.std.specs.Prelude.{◌≡◌, ◌⊎◌, ℕ, ◌+◌, ◌<◌, ◌≤◌, List, [], ◌∷◌, ◌++◌, length, take, drop, Option, Some, None}
use Rattle.std.specs.Io.KnownBytes.{Appends, Keeps}
use Rattle.bench_io.specs.Lines.{lines_of, whole_lines_of, session_lines}
use Rattle.bench_io.specs.Streams.{Telling}
use Rattle.bench_io.specs.declared.limits.TheConstants.{MOST_BYTES, BUFFER_ROOM}
use Rattle.session_undo.specs.Replies.{text_of}
use Rattle.bench_cli.specs.Replies.{Exchange, transcript, lines_of_exchanges, has_refused, has_no_memory}
use Rattle.session_undo.specs.Presents.{State, empty}
use Rattle.bench_cli.specs.Runs.{Run}
use Rattle.bench_cli.specs.Statuses.{status_by}
use Rattle.bench_cli.specs.declared.Status.{Status}
use Rattle.bench_cli.specs.declared.Status.TheVariants.{Done, SomeRefused, Usage, ReadFault, WriteFault, TooMuch, NoMemory}

-- these are all the lines of the input, and nothing is left
pub record ReadsAll (lines : List (List ℕ)) (input left : List ℕ) : Type 0 where
  pub fits : length input ≤ MOST_BYTES
  pub each : lines ≡ lines_of input
  pub end : left ≡ []

-- these are the lines whose newline is among the bytes that were taken
pub record ReadsTo (lines : List (List ℕ)) (input left : List ℕ) : Type 0 where
  pub taken : List ℕ
  pub split : input ≡ taken ++ left
  pub fits : length taken ≤ MOST_BYTES
  pub each : lines ≡ whole_lines_of taken

-- these are the lines whose newline is among the most bytes of a session, and one more byte was taken
pub record ReadsMost (lines : List (List ℕ)) (input left : List ℕ) : Type 0 where
  pub more : MOST_BYTES < length input
  pub each : lines ≡ whole_lines_of (take MOST_BYTES input)
  pub rest : left ≡ drop (MOST_BYTES + 1) input

-- These are the first lines of the session, and lie among the bytes that were taken. No more was taken ahead of them
-- than a reader has room for.
pub record ReadsSome (lines : List (List ℕ)) (input left : List ℕ) : Type 0 where
  pub read : List ℕ
  pub ahead : List ℕ
  pub split : input ≡ read ++ (ahead ++ left)
  pub fits : length (read ++ ahead) ≤ MOST_BYTES
  pub near : length ahead ≤ BUFFER_ROOM
  pub each : lines ≡ lines_of read
  pub after : List (List ℕ)
  pub first : session_lines input ≡ lines ++ after

-- where the source tells its bytes, it still does, and this holds of them
abbrev pub WhereTold : Option (List ℕ) → Option (List ℕ) → (List ℕ → List ℕ → Type 0) → Type 0
WhereTold None left P = Unit {0}
WhereTold (Some input) None P = ⊥
WhereTold (Some input) (Some left) P = P input left

-- The input was read to its end, and all replies were written. The status is theirs.
pub record AnswersAll (status : Status) (exchanges : List Exchange) (input left before now : Option (List ℕ)) : Type 0 where
  pub reads : WhereTold input left (ReadsAll (lines_of_exchanges exchanges))
  pub written : Appends before now (transcript exchanges)
  pub by_replies : status ≡ status_by (has_no_memory exchanges) (has_refused exchanges)

-- There was no memory to begin with, and nothing was read or written.
pub record FindsNoRoom (exchanges : List Exchange) (input left before now : Option (List ℕ)) : Type 0 where
  pub none : exchanges ≡ []
  pub unread : Keeps input left
  pub unwritten : Keeps before now

-- All replies were written, but for a rest of the last one.
pub record WritesPart (exchanges : List Exchange) (before now : Option (List ℕ)) : Type 0 where
  pub first : List Exchange
  pub last : Exchange
  pub front : List ℕ
  pub rest : List ℕ
  pub each : exchanges ≡ first ++ last ∷ []
  pub split : text_of last.reply ≡ front ++ rest
  pub written : Appends before now (transcript first ++ front)

-- What each status says of the lines, their replies, the input and the output.
abbrev pub Outcome : Status → List Exchange → (input left before now : Option (List ℕ)) → Type 0
Outcome Done exchanges input left before now = AnswersAll Done exchanges input left before now
Outcome SomeRefused exchanges input left before now = AnswersAll SomeRefused exchanges input left before now
Outcome NoMemory exchanges input left before now = AnswersAll NoMemory exchanges input left before now ⊎ FindsNoRoom exchanges input left before now
Outcome ReadFault exchanges input left before now =
    WhereTold input left (ReadsTo (lines_of_exchanges exchanges)) × Appends before now (transcript exchanges)
Outcome TooMuch exchanges input left before now =
    WhereTold input left (ReadsMost (lines_of_exchanges exchanges)) × Appends before now (transcript exchanges)
Outcome WriteFault exchanges input left before now =
    WhereTold input left (ReadsSome (lines_of_exchanges exchanges)) × WritesPart exchanges before now
Outcome Usage exchanges input left before now = ⊥

-- A session: lines and their replies are a run from the empty state, and the status says what they are of the
-- input and the output.
pub record Session (status : Status) (source_before source_now sink_before sink_now : Telling) : Type 0 where
  pub exchanges : List Exchange
  pub state : State
  pub run : Run empty exchanges state
  pub outcome : Outcome status exchanges source_before.bytes source_now.bytes sink_before.bytes sink_now.bytes
