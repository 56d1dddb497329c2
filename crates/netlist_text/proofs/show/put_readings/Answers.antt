use Rattle.std.proofs.Common.{map, ap, arith, take_all}
use Rattle.bench_io.proofs.PutParts.{Puts-as, Puts-nothing}
use Rattle.circuit_model.specs.Present.{IsFactOf}
use Rattle.netlist_text.proofs.NamedPlaces.{All-place}
use Rattle.netlist_text.specs.Show.{text_of_lines, reading_words}
use Rattle.netlist_text.proofs.ShownParts.{Puts-line_more}
use Rattle.netlist_text.proofs.show.put_readings.Goals as goal

pub loop-place-init : goal.loop-place-init
loop-place-init g c = Puts-nothing _ _

pub loop-place-preserved : goal.loop-place-preserved
loop-place-preserved g c = Puts-line_more c.args.present.now.readings c.loop-place.place _ c.reading.ensures (reading_words c.args.present.now) c.loop-place.invariant c.put_reading-failed.ensures

pub returns : goal.returns
returns g c = Puts-as (ap (λ xs. text_of_lines (map (reading_words c.args.present.now) xs)) (take_all c.loop-place.place c.args.present.now.readings (omega (arith, c.readings-place-end.ensures.value)))) c.loop-place.invariant

pub put_reading-failed-requires : goal.put_reading-failed-requires
put_reading-failed-requires g c = let h = c.readings-place-end.ensures.lawful in let fact = All-place (IsFactOf c.args.present.now) c.args.present.now.readings c.loop-place.place c.reading.result c.reading.ensures h.each_reading in fact.net
