use Rattle.std.proofs.Common.{arith}
use Rattle.proof_check.proofs.Holding.{readings_found}
use Rattle.proof_check.proofs.closing.put_readings.Goals as goal

pub returns-clause-readings : goal.returns-clause-readings
returns-clause-readings c = readings_found c.args.present.now c.args.chosen.now c.readings-place-end.ensures.lawful c.loop-place.place (omega (arith, c.readings-place-end.ensures.value)) c.loop-place.found c.loop-place.invariant.readings
