use Rattle.std.proofs.Common.{map, ap, arith, take_all}
use Rattle.bench_io.proofs.PutParts.{Puts-as, Puts-nothing}
use Rattle.circuit_model.specs.Present.{block_at}
use Rattle.netlist_text.specs.Show.{text_of_lines, inner_words}
use Rattle.circuit_model.specs.Blocks.{IsLawfulInner}
use Rattle.circuit_model.specs.declared.blocks.Inner.{Inner}
use Rattle.netlist_text.proofs.NamedPlaces.{All-place}
use Rattle.netlist_text.proofs.ShownParts.{Puts-line_more}
use Rattle.netlist_text.proofs.show.put_inners.Goals as goal

pub loop-place-init : goal.loop-place-init
loop-place-init g c = Puts-nothing _ _

pub loop-place-preserved : goal.loop-place-preserved
loop-place-preserved g c = Puts-line_more (block_at c.args.present.now c.args.block).inners c.loop-place.place _ c.inner_at-name.ensures.inner (inner_words (block_at c.args.present.now c.args.block).name (block_at c.args.present.now c.args.block).pins) c.loop-place.invariant c.put_inner-failed.ensures

pub returns : goal.returns
returns g c = Puts-as (ap (λ xs. text_of_lines (map (inner_words (block_at c.args.present.now c.args.block).name (block_at c.args.present.now c.args.block).pins) xs)) (take_all c.loop-place.place (block_at c.args.present.now c.args.block).inners (omega (arith, c.inners_of-place-end.ensures.value)))) c.loop-place.invariant

pub put_inner-failed-requires-clause-lawful : goal.put_inner-failed-requires-clause-lawful
put_inner-failed-requires-clause-lawful g c =
    let b = block_at c.args.present.now c.args.block in
    let each = c.requires.lawful in
    let i : Inner = record { name = c.inner_at-name.result.0; kind = c.inner_at-name.result.1; pins = c.inner_at-name.result.2 } in
    All-place (IsLawfulInner b.pins) b.inners c.loop-place.place i c.inner_at-name.ensures.inner each.each_inner
