use Rattle.std.proofs.Common.{map, ap, arith, take_all}
use Rattle.bench_io.proofs.PutParts.{Puts-as, Puts-nothing}
use Rattle.circuit_model.specs.Present.{block_at}
use Rattle.netlist_text.specs.Show.{text_of_lines, pin_words}
use Rattle.netlist_text.proofs.ShownParts.{Puts-line_more}
use Rattle.netlist_text.proofs.show.put_pins.Goals as goal

pub loop-place-init : goal.loop-place-init
loop-place-init g c = Puts-nothing _ _

pub loop-place-preserved : goal.loop-place-preserved
loop-place-preserved g c = Puts-line_more (block_at c.args.present.now c.args.block).pins c.loop-place.place _ c.pin_at-name.ensures (pin_words (block_at c.args.present.now c.args.block).name) c.loop-place.invariant (rw (← c.block_name-definition.ensures, ← c.bytes.ensures.bytes, ← c.bytes-in-loop-place.ensures.bytes, ← c.bits.ensures.value) c.put_line_with-failed.ensures)

pub returns : goal.returns
returns g c = Puts-as (ap (λ xs. text_of_lines (map (pin_words (block_at c.args.present.now c.args.block).name) xs)) (take_all c.loop-place.place (block_at c.args.present.now c.args.block).pins (omega (arith, c.pins_of-place-end.ensures.value)))) c.loop-place.invariant
