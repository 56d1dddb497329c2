use Rattle.std.proofs.Common.{arith}
use Rattle.proof_check.proofs.Found.{found, not_found}
use Rattle.proof_check.proofs.premises.has_place.Goals as goal

pub returns-then-at-position : goal.returns-then-at-position
returns-then-at-position c = found c.args.places.now c.loop-i.i c.at.result c.args.position c.at.ensures (c.if-at-position.true)

pub returns : goal.returns
returns c = not_found c.args.places.now c.loop-i.i c.args.position (omega (arith, c.len-i-end.ensures.value)) c.loop-i.invariant
