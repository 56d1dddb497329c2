use Rattle.std.proofs.Common.{◌≡◌, ◌++◌, take, drop, IsSome}
use Rattle.circuit_model.specs.Present.{reading_in, without_reading}
use Rattle.circuit_model.proofs.present.place_at.Given as goal

-- the measurement is further on
abbrev pub invariant-loop-place : goal.invariant-loop-place
invariant-loop-place l = (take l.place l.readings ++ without_reading l.cell (drop l.place l.readings) ≡ without_reading l.cell l.readings) × IsSome (reading_in (drop l.place l.readings) l.cell)
