use Rattle.justifications.specs.Kept.{AreMade}
use Rattle.justifications.proofs.links.make_all.Given as goal

abbrev pub invariant-loop-lane : goal.invariant-loop-lane
invariant-loop-lane l = AreMade l.fn.chains l.chains l.inferred l.lane
