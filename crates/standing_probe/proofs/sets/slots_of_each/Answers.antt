use Rattle.std.proofs.Common.{arith}
use Rattle.standing_probe.proofs.Chosen.{one_more_at, in_range_at}
use Rattle.standing_probe.proofs.sets.slots_of_each.Goals as goal

pub slots_of-requires : goal.slots_of-requires
slots_of-requires c = in_range_at c.args.standing.now c.args.environments.now c.loop-environment.environment-index c.environment-item.result c.requires c.environment-item.is (omega (arith, c.loop-environment-test.true))

pub loop-environment-preserved : goal.loop-environment-preserved
loop-environment-preserved c =
    one_more_at c.args.standing.now c.loop-environment.found.items c.args.environments.now c.loop-environment.environment-index c.environment-item.result c.slots_of.result c.environment-item.is (omega (arith, c.loop-environment-test.true)) c.loop-environment.invariant c.slots_of.ensures c.push.new.self.items c.in_ok-push.ensures.items
