use Rattle.std.proofs.Common.{map, ap, arith, take_all}
use Rattle.bench_io.proofs.PutParts.{Puts-as, Puts-nothing}
use Rattle.circuit_model.specs.Present.{IsLawfulComponent}
use Rattle.netlist_text.proofs.NamedPlaces.{All-place}
use Rattle.netlist_text.specs.Show.{text_of_lines, component_words}
use Rattle.netlist_text.proofs.ShownParts.{Puts-line_more}
use Rattle.netlist_text.proofs.show.put_components.Goals as goal

pub loop-place-init : goal.loop-place-init
loop-place-init g c = Puts-nothing _ _

pub loop-place-preserved : goal.loop-place-preserved
loop-place-preserved g c = Puts-line_more c.args.present.now.parts c.loop-place.place _ c.part_at.ensures (component_words c.args.present.now) c.loop-place.invariant c.put_component-failed.ensures

pub returns : goal.returns
returns g c = Puts-as (ap (λ xs. text_of_lines (map (component_words c.args.present.now) xs)) (take_all c.loop-place.place c.args.present.now.parts (omega (arith, c.parts-place-end.ensures.value)))) c.loop-place.invariant

pub put_component-failed-requires : goal.put_component-failed-requires
put_component-failed-requires g c = let h = c.parts-place-end.ensures.lawful in All-place (IsLawfulComponent c.args.present.now) c.args.present.now.parts c.loop-place.place c.part_at.result.now c.part_at.ensures h.each_part
