use Rattle.std.proofs.Common.{◌≡◌, drop}
use Rattle.circuit_model.specs.Present.{reading_in}
use Rattle.circuit_model.proofs.present.reading_of.Given as goal

abbrev pub invariant-loop-reading : goal.invariant-loop-reading
invariant-loop-reading l = reading_in (drop l.reading-index l.readings) l.cell ≡ reading_in l.readings l.cell
