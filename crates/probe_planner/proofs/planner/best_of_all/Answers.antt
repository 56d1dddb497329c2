use Rattle.std.proofs.Common.{arith}
use Rattle.probe_planner.proofs.Planned.{none_before, best_of_all}
use Rattle.probe_planner.proofs.planner.best_of_all.Goals as goal

pub loop-net-init : goal.loop-net-init
loop-net-init c = none_before c.args.present.now

pub returns : goal.returns
returns c = best_of_all c.args.present.now c.loop-net.net c.loop-net.best (omega (arith, c.loop-net-test.false, c.nets-net-end.ensures.value)) c.loop-net.invariant
