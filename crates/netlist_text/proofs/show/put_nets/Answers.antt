use Rattle.std.proofs.Common.{map, ap, arith, take_all}
use Rattle.bench_io.proofs.PutParts.{Puts-as, Puts-nothing}
use Rattle.netlist_text.specs.Show.{text_of_lines, net_words}
use Rattle.netlist_text.proofs.ShownParts.{Puts-line_more}
use Rattle.netlist_text.proofs.show.put_nets.Goals as goal

pub loop-place-init : goal.loop-place-init
loop-place-init g c = Puts-nothing _ _

pub loop-place-preserved : goal.loop-place-preserved
loop-place-preserved g c = Puts-line_more c.args.present.now.nets c.loop-place.place _ c.net_at-name.ensures net_words c.loop-place.invariant (rw (← c.bytes.ensures.bytes, ← c.bits.ensures.value) c.put_line_with-failed.ensures)

pub returns : goal.returns
returns g c = Puts-as (ap (λ nets. text_of_lines (map net_words nets)) (take_all c.loop-place.place c.args.present.now.nets (omega (arith, c.nets-place-end.ensures.value)))) c.loop-place.invariant
