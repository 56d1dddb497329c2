-- Laws of the lines of a list of bytes, and of the lines that a reader gives.
use Rattle.std.specs.Prelude.{◌≡◌, ◌≢◌, ℕ, ◌≤◌, ◌<◌, true, List, [], ◌∷◌, ◌++◌, length, Some, Result, Ok, Err}
use Rattle.bench_io.specs.Lines.{HasNoNewline, lines_of, whole_lines_of}
use Rattle.bench_io.specs.declared.limits.TheConstants.{LONGEST_LINE}
use Rattle.bench_io.specs.Reading.{Reading, ReadsLine}
use Rattle.bench_io.specs.declared.lines.Line.{Line}
use Rattle.bench_io.specs.declared.lines.Line.TheVariants.{Text, TooLong, End}
use Rattle.bench_io.specs.declared.lines.ReadStop.{ReadStop}

-- Each newline ends a line, and a rest without one is a line where it is not empty. Of the whole lines it is none.
pub record CutsLines : Type 0 where
  pub nothing : lines_of [] ≡ []
  pub newline : (line rest : List ℕ) → HasNoNewline line → lines_of (line ++ 10 ∷ rest) ≡ line ∷ lines_of rest
  pub last : (rest : List ℕ) → HasNoNewline rest → rest ≢ [] → lines_of rest ≡ rest ∷ []
  pub whole : (line rest : List ℕ) → HasNoNewline line → whole_lines_of (line ++ 10 ∷ rest) ≡ line ∷ whole_lines_of rest
  pub not_whole : (rest : List ℕ) → HasNoNewline rest → whole_lines_of rest ≡ []

-- the lines of what a reader holds and of what its source has left
abbrev pub lines_in : Reading → List ℕ → List (List ℕ)
lines_in reader left = lines_of (reader.held ++ left)

-- where the reader has met the end of the input, its source has nothing left
abbrev pub IsSpent : Reading → List ℕ → Type 0
IsSpent reader left = reader.has_ended ≡ true → left ≡ []

-- A line that is answered is the first of the lines that were there, and the others are still there. At the end there
-- was none.
abbrev pub GivesFirst : (old new : Reading) (left_before left_now : List ℕ) → Result Line ReadStop → Type 0
GivesFirst old new left_before left_now (Ok (Text line)) = (length line.now ≤ LONGEST_LINE) × (lines_in old left_before ≡ line.now ∷ lines_in new left_now) × IsSpent new left_now
GivesFirst old new left_before left_now (Ok TooLong) = (line : List ℕ) × (LONGEST_LINE < length line) × (lines_in old left_before ≡ line ∷ lines_in new left_now) × IsSpent new left_now
GivesFirst old new left_before left_now (Ok End) = lines_in old left_before ≡ []
GivesFirst old new left_before left_now (Err stop) = Unit {0}

-- Each call of a reader over a source that tells its bytes gives the first of the lines that are left.
abbrev pub CallsGiveFirst : Type 0
CallsGiveFirst = (old new : Reading) (left_before left_now : List ℕ) (faults_before faults_now : ℕ) (result : Result Line ReadStop) → IsSpent old left_before
    → ReadsLine old new (record { bytes = Some left_before; faults = faults_before }) (record { bytes = Some left_now; faults = faults_now }) result
    → GivesFirst old new left_before left_now result
