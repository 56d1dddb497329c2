-- When each status comes.
use Rattle.std.specs.Prelude.{◌≡◌, ◌⊎◌, ℕ, ◌+◌, ◌<◌, ◌≤◌, List, length, Option, Some, None}
use Rattle.bench_io.specs.declared.limits.TheConstants.{MOST_BYTES}
use Rattle.bench_cli.specs.declared.Status.{Status}
use Rattle.bench_cli.specs.declared.Status.TheVariants.{Done, SomeRefused, NoMemory}

-- more bytes were taken than a session may have
abbrev pub TakesTooMuch : (input left : List ℕ) → Type 0
TakesTooMuch input left = MOST_BYTES + length left < length input

-- the source tells its bytes, and they are no more than a session may have
abbrev pub IsWithin : Option (List ℕ) → Type 0
IsWithin None = ⊥
IsWithin (Some input) = length input ≤ MOST_BYTES

-- a status of a session that was read to its end, or of one that never began
abbrev pub IsComplete : Status → Type 0
IsComplete status = (status ≡ Done) ⊎ (status ≡ SomeRefused) ⊎ (status ≡ NoMemory)
