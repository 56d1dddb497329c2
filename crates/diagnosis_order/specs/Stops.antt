-- When no list of diagnoses is given.
use Rattle.std.specs.Prelude.{ℕ, ◌<◌, ◌≤◌, List}
use Rattle.circuit_model.specs.declared.limits.TheConstants.{MOST_DIAGNOSES}
use Rattle.environment_sets.specs.declared.environment.Env.{Env}
use Rattle.hitting_sets.specs.Hitting.{IsMinimalFor}
use Rattle.diagnosis_order.specs.declared.listing.DiagnosisStop.{DiagnosisStop}
use Rattle.diagnosis_order.specs.declared.listing.DiagnosisStop.TheVariants.{TooMany, OutOfMemory}
use Rattle.environment_sets.specs.Counts.{AreSoMany}

-- the count is that of all minimal hitting sets, and above the limit
abbrev pub IsStopFor : List Env → DiagnosisStop → Type 0
IsStopFor conflicts (TooMany count) = AreSoMany (IsMinimalFor conflicts) count × (MOST_DIAGNOSES < count)
IsStopFor conflicts OutOfMemory = Unit {0}

-- there are no more minimal hitting sets than are listed
abbrev pub AreFew : List Env → Type 0
AreFew conflicts = (count : ℕ) × AreSoMany (IsMinimalFor conflicts) count × (count ≤ MOST_DIAGNOSES)
