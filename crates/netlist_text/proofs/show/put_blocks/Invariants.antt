use Rattle.std.proofs.Common.{take}
use Rattle.std.specs.List.{flat_map}
use Rattle.bench_io.specs.Puts.{Puts}
use Rattle.netlist_text.specs.Show.{text_of_lines, block_lines}
use Rattle.netlist_text.proofs.show.put_blocks.Given as goal

abbrev pub invariant-loop-block : goal.invariant-loop-block
invariant-loop-block g l = Puts l.initial.failed l.failed (g.K.Sink.told l.initial.sink) (g.K.Sink.told l.sink) (text_of_lines (flat_map block_lines (take l.block l.present.blocks)))
