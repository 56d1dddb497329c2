use Rattle.std.proofs.Common.{take, map}
use Rattle.bench_io.specs.Puts.{Puts}
use Rattle.circuit_model.specs.Present.{block_at}
use Rattle.netlist_text.specs.Show.{text_of_lines, inner_words}
use Rattle.netlist_text.proofs.show.put_inners.Given as goal

abbrev pub invariant-loop-place : goal.invariant-loop-place
invariant-loop-place g l = Puts l.initial.failed l.failed (g.K.Sink.told l.initial.sink) (g.K.Sink.told l.sink) (text_of_lines (map (inner_words (block_at l.present l.block).name (block_at l.present l.block).pins) (take l.place (block_at l.present l.block).inners)))
