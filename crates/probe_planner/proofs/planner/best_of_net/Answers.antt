use Rattle.std.proofs.Common.{refl, arith}
use Rattle.probe_planner.proofs.Planned.{next_net}
use Rattle.probe_planner.proofs.planner.best_of_net.Goals as goal

pub returns : goal.returns
returns c = next_net c.args.present.now c.args.net c.loop-cycle.best (record { net = c.args.net; cycle = c.loop-cycle.cycle }) refl (omega (arith, c.loop-cycle-test.false, c.cycles-cycle-end.ensures.value)) c.loop-cycle.invariant
