use Rattle.std.proofs.Common.{take, map}
use Rattle.bench_io.specs.Puts.{Puts}
use Rattle.netlist_text.specs.Show.{text_of_lines, mode_words}
use Rattle.netlist_text.proofs.show.put_modes.Given as goal

abbrev pub invariant-loop-place : goal.invariant-loop-place
invariant-loop-place g l = Puts l.initial.failed l.failed (g.K.Sink.told l.initial.sink) (g.K.Sink.told l.sink) (text_of_lines (map mode_words (take l.place l.present.modes)))
