use Rattle.std.proofs.Common.{IsTrue, refl, arith}
use Rattle.labelled_nodes.proofs.Labelled.{one_dropped}
use Rattle.labelled_nodes.proofs.nodes.drop_slot_in.Goals as goal

pub loop-place-preserved : goal.loop-place-preserved
loop-place-preserved c =
    one_dropped (λ F. IsTrue (F c.args.slot)) c.args.nodes.now c.loop-place.nodes c.loop-place.place c.index-nodes-place.result (record { fact = _; label = c.drop_slot.new.self }) c.loop-place.auto.nodes (omega (arith, c.loop-place-test.true, c.loop-place.auto.nodes)) c.loop-place.invariant refl c.drop_slot.ensures.dropped
