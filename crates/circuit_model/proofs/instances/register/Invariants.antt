use Rattle.std.proofs.Common.{◌≡◌}
use Rattle.circuit_model.specs.Kinds.{register}
use Rattle.circuit_model.proofs.instances.register.Given as goal

abbrev pub invariant-loop-cycle : goal.invariant-loop-cycle
invariant-loop-cycle l = l.instances.items ≡ register l.reset l.nets l.widths l.cycle
