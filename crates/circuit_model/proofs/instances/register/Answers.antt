use Rattle.circuit_model.proofs.Cycles.{register-more, pushed}
use Rattle.circuit_model.proofs.instances.register.Goals as goal

pub loop-cycle-preserved : goal.loop-cycle-preserved
loop-cycle-preserved c = let more = register-more c.args.reset c.args.nets c.args.widths c.loop-cycle.cycle c.loop-cycle.auto.cycle in
    pushed c.in_ok-push-2.ensures.items c.loop-cycle.invariant c.carry_instance.ensures more
