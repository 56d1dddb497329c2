use Rattle.std.proofs.Common.{take}
use Rattle.std.specs.List.{flat_map}
use Rattle.bench_io.specs.Puts.{Puts}
use Rattle.netlist_text.specs.Show.{text_of_lines, cost_lines}
use Rattle.netlist_text.proofs.show.put_costs.Given as goal

abbrev pub invariant-loop-place : goal.invariant-loop-place
invariant-loop-place g l = Puts l.initial.failed l.failed (g.K.Sink.told l.initial.sink) (g.K.Sink.told l.sink) (text_of_lines (flat_map cost_lines (take l.place l.present.parts)))
