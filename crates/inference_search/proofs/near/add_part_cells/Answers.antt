use Rattle.std.proofs.Common.{arith}
use Rattle.circuit_model.specs.declared.model.Cell.{Cell}
use Rattle.circuit_model.specs.declared.model.Instance.{Instance}
use Rattle.environment_sets.specs.Lists.{IsIn}
use Rattle.inference_search.proofs.Adding.{one_before, all_before}
use Rattle.inference_search.proofs.near.add_part_cells.Goals as goal

pub loop-index-preserved : goal.loop-index-preserved
loop-index-preserved c =
    one_before c.args.part.now (λ (i : Instance) (d : Cell). IsIn i.cells d) c.loop-index.index c.at.result.now c.at.ensures.instance c.args.cells.now.items c.loop-index.cells.items c.add_cells.new.cells.items c.loop-index.invariant c.in_ok-add_cells.ensures

pub returns : goal.returns
returns c = all_before c.args.part.now (λ (i : Instance) (d : Cell). IsIn i.cells d) c.loop-index.index (omega arith) c.args.cells.now.items c.loop-index.cells.items c.loop-index.invariant
