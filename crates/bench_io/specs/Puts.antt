-- What is written by a writer that goes on after a failure, without a further write.
use Rattle.std.specs.Prelude.{◌≡◌, ◌≤◌, ℕ, Bool, true, false, List, ◌++◌}
use Rattle.std.specs.Io.KnownBytes.{Appends}
use Rattle.bench_io.specs.Causes.{Rose}
use Rattle.bench_io.specs.Streams.{Telling}

-- From one moment to another the text was put: all of it was appended, or a front of it where a write failed.
-- After a failure nothing more is written.
abbrev pub PutsBy : (failed_before failed_now : Bool) (before now : Telling) → List ℕ → Type 0
PutsBy false false before now text = Appends before.bytes now.bytes text × (now.faults ≡ before.faults)
PutsBy false true before now text =
    ((front : List ℕ) × (rest : List ℕ) × (text ≡ front ++ rest) × Appends before.bytes now.bytes front) × (before.faults ≤ now.faults) × Rose before.faults now.faults
PutsBy true false before now text = ⊥
PutsBy true true before now text = now ≡ before

-- The same as a record, so that a proof finds the parts.
pub record Puts (failed_before failed_now : Bool) (before now : Telling) (text : List ℕ) : Type 0 where
  pub by_case : PutsBy failed_before failed_now before now text
