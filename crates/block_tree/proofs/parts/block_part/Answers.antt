use Rattle.circuit_model.specs.Blocks.{inner_instances}
use Rattle.circuit_model.specs.Present.{block_at}
use Rattle.block_tree.proofs.Uses.{one_more}
use Rattle.block_tree.proofs.parts.block_part.Goals as goal

pub loop-place-preserved : goal.loop-place-preserved
loop-place-preserved c =
    let s = c.args.present.now in
    let b = block_at s c.args.block in
    one_more (inner_instances b.pins c.args.nets.now s.cycles) b.inners c.loop-place.place c.loop-place.part c.in_ok-inner.inner c.append.new.self c.in_ok-inner.ensures c.loop-place.invariant c.in_ok-append.ensures.ok
