use Rattle.std.proofs.Common.{◌≡◌}
use Rattle.circuit_model.specs.Kinds.{each_cycle, instance_at}
use Rattle.circuit_model.proofs.instances.each_cycle.Given as goal

abbrev pub invariant-loop-cycle : goal.invariant-loop-cycle
invariant-loop-cycle l = l.instances.items ≡ each_cycle (instance_at l.prim l.nets l.widths) 0 l.cycle
