use Rattle.std.proofs.Common.{ap, arith, take_all}
use Rattle.std.specs.List.{flat_map}
use Rattle.bench_io.proofs.PutParts.{Puts-as, Puts-nothing}
use Rattle.circuit_model.specs.Blocks.{IsLawfulBlock}
use Rattle.netlist_text.proofs.NamedPlaces.{All-place}
use Rattle.circuit_model.specs.Present.{block_at}
use Rattle.netlist_text.specs.Show.{text_of_lines, block_lines}
use Rattle.netlist_text.proofs.ShownParts.{Puts-lines_more, block-there}
use Rattle.netlist_text.proofs.show.put_blocks.Goals as goal

pub loop-block-init : goal.loop-block-init
loop-block-init g c = Puts-nothing _ _

pub loop-block-preserved : goal.loop-block-preserved
loop-block-preserved g c = Puts-lines_more c.args.present.now.blocks c.loop-block.block (block_at c.args.present.now c.loop-block.block) (block-there c.args.present.now c.loop-block.block (omega (arith, c.blocks-block-end.ensures.value))) block_lines c.loop-block.invariant c.put_block-failed.ensures

pub returns : goal.returns
returns g c = Puts-as (ap (λ xs. text_of_lines (flat_map block_lines xs)) (take_all c.loop-block.block c.args.present.now.blocks (omega (arith, c.blocks-block-end.ensures.value)))) c.loop-block.invariant

pub put_block-failed-requires-clause-lawful : goal.put_block-failed-requires-clause-lawful
put_block-failed-requires-clause-lawful g c =
    let h = c.blocks-block-end.ensures.lawful in
    All-place IsLawfulBlock c.args.present.now.blocks c.loop-block.block (block_at c.args.present.now c.loop-block.block) (block-there c.args.present.now c.loop-block.block (omega (arith, c.blocks-block-end.ensures.value))) h.each_block
