use Rattle.label_engine.proofs.Assuming.{items_from-more}
use Rattle.label_engine.proofs.update.bring_at_each.Goals as goal

pub loop-inferred-preserved : goal.loop-inferred-preserved
loop-inferred-preserved c =
    items_from-more c.args.nodes.now.list c.args.found.now c.loop-inferred.inferred-index _ c.args.work.now.items c.loop-inferred.work.items c.bring_at_one.new.work.items c.loop-inferred-test.true c.loop-inferred.invariant c.in_ok-bring_at_one.ensures
