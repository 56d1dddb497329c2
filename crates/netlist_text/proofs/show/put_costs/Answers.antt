use Rattle.std.proofs.Common.{ap, arith, take_all}
use Rattle.std.specs.List.{flat_map}
use Rattle.bench_io.proofs.PutParts.{Puts-as, Puts-nothing}
use Rattle.netlist_text.specs.Show.{text_of_lines, cost_lines}
use Rattle.netlist_text.proofs.ShownParts.{Puts-lines_more}
use Rattle.netlist_text.proofs.show.put_costs.Goals as goal

pub loop-place-init : goal.loop-place-init
loop-place-init g c = Puts-nothing _ _

pub loop-place-preserved : goal.loop-place-preserved
loop-place-preserved g c = Puts-lines_more c.args.present.now.parts c.loop-place.place _ c.part_at.ensures cost_lines c.loop-place.invariant c.put_cost-failed.ensures

pub returns : goal.returns
returns g c = Puts-as (ap (λ xs. text_of_lines (flat_map cost_lines xs)) (take_all c.loop-place.place c.args.present.now.parts (omega (arith, c.parts-place-end.ensures.value)))) c.loop-place.invariant
