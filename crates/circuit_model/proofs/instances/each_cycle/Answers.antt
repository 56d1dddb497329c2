use Rattle.circuit_model.specs.Kinds.{instance_at}
use Rattle.circuit_model.proofs.Cycles.{each_cycle-more, pushed}
use Rattle.circuit_model.proofs.instances.each_cycle.Goals as goal

pub loop-cycle-preserved : goal.loop-cycle-preserved
loop-cycle-preserved c = let more = each_cycle-more (instance_at c.args.prim c.args.nets c.args.widths) c.loop-cycle.cycle in
    pushed c.in_ok-push.ensures.items c.loop-cycle.invariant c.instance_at.ensures more
