-- What a run of the program does, and the number that it exits with.
use Rattle.std.specs.Prelude.{◌≡◌, ◌≢◌, ◌↔◌, ℕ, ◌≤◌, ◌<◌, List, String}
use Rattle.bench_io.specs.Causes.{Rose}
use Rattle.bench_io.specs.Streams.{Telling}
use Rattle.bench_cli.specs.Causes.{TakesTooMuch, IsWithin, IsComplete}
use Rattle.bench_cli.specs.Session.{Session, WhereTold}
use Rattle.bench_cli.specs.Statuses.{number_of}
use Rattle.bench_cli.specs.Words.{IsRun, IsMake, TellsUsage}
use Rattle.bench_cli.specs.Summary.{Summarizes}
use Rattle.netlist_text.specs.Words as lines
use Rattle.bench_cli.specs.declared.TheConstants.{NO_WORDS}
use Rattle.bench_cli.specs.declared.CommandLine.{CommandLine}
use Rattle.bench_cli.specs.declared.CommandLine.TheVariants.{Words, NotHandedOut, NotKept}
use Rattle.bench_cli.specs.declared.Status.{Status}
use Rattle.bench_cli.specs.declared.Status.TheVariants.{Usage, ReadFault, WriteFault, TooMuch, NoMemory}

-- With these words a session was answered, or a summary or the usage was told; and each status came where it is due.
pub record Performs {Z : Type 0} (words : List (String Z)) (status : Status) (source_before source_now sink_before sink_now : Telling) : Type 0 where
  pub run : IsRun words → Session status source_before source_now sink_before sink_now
  pub make : (asked : IsMake words) → Summarizes status (lines.number_of asked.count) (lines.number_of asked.seed) sink_before.bytes sink_now.bytes
  pub other_words : (IsRun words → ⊥) → (IsMake words → ⊥) → TellsUsage status sink_before.bytes sink_now.bytes
  -- a write failed just where the status says so
  pub write_fault : status ≡ WriteFault → Rose sink_before.faults sink_now.faults
  pub write_counted : sink_before.faults < sink_now.faults → status ≡ WriteFault
  pub usage : (status ≡ Usage) ↔ ((IsRun words → ⊥) × (IsMake words → ⊥) × (status ≢ WriteFault))
  -- a read failed just where the status says so
  pub read_fault : status ≡ ReadFault → IsRun words × Rose source_before.faults source_now.faults
  pub read_counted : source_before.faults < source_now.faults → status ≡ ReadFault
  pub too_much : WhereTold source_before.bytes source_now.bytes (λ input left. (status ≡ TooMuch) ↔ TakesTooMuch input left)
  pub complete : IsRun words → IsWithin source_before.bytes
      → (Rose source_before.faults source_now.faults → ⊥) → (Rose sink_before.faults sink_now.faults → ⊥) → IsComplete status
  pub source_later : source_before.faults ≤ source_now.faults
  pub sink_later : sink_before.faults ≤ sink_now.faults

-- the words were handed out and kept
abbrev pub HasWords : CommandLine → Type 0
HasWords (Words words) = Unit {0}
HasWords NotHandedOut = ⊥
HasWords NotKept = ⊥

-- the words ask for a session
abbrev pub AsksForSession : CommandLine → Type 0
AsksForSession (Words words) = IsRun words.items
AsksForSession NotHandedOut = ⊥
AsksForSession NotKept = ⊥

-- The program exits with the number of the status of its run. Where there are no words, it never began.
abbrev pub Exits : CommandLine → (number : ℕ) (source_before source_now sink_before sink_now : Telling) → Type 0
Exits (Words words) number source_before source_now sink_before sink_now =
    (status : Status) × (number ≡ number_of status) × Performs words.items status source_before source_now sink_before sink_now
Exits NotHandedOut number source_before source_now sink_before sink_now = number ≡ NO_WORDS
Exits NotKept number source_before source_now sink_before sink_now = number ≡ number_of NoMemory
