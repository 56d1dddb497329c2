use Rattle.std.proofs.Common.{refl, arith}
use Rattle.environment_sets.specs.Sets.{◌⊆◌}
use Rattle.environment_sets.specs.Members.{members}
use Rattle.labelled_nodes.proofs.Labelled.{one_dropped}
use Rattle.labelled_nodes.proofs.nodes.drop_over.Goals as goal

pub loop-place-preserved : goal.loop-place-preserved
loop-place-preserved c =
    one_dropped (λ F. members c.args.nogood.now ⊆ F) c.args.nodes.now c.loop-place.nodes c.loop-place.place c.index-nodes-place.result (record { fact = _; label = c.drop_over.new.self }) c.loop-place.auto.nodes (omega (arith, c.loop-place-test.true, c.loop-place.auto.nodes)) c.loop-place.invariant refl c.drop_over.ensures.dropped
