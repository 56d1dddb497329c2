use Rattle.std.proofs.Common.{◌≡◌, ◌++◌, take, drop}
use Rattle.circuit_model.specs.Present.{with_reading}
use Rattle.circuit_model.proofs.present.place_for.Given as goal

abbrev pub invariant-loop-place : goal.invariant-loop-place
invariant-loop-place l = take l.place l.readings ++ with_reading l.fact (drop l.place l.readings) ≡ with_reading l.fact l.readings
