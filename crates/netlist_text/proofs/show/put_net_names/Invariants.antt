use Rattle.std.proofs.Common.{take, map}
use Rattle.bench_io.specs.Puts.{Puts}
use Rattle.netlist_text.specs.Show.{after_spaces, name_at}
use Rattle.netlist_text.proofs.show.put_net_names.Given as goal

abbrev pub invariant-loop-place : goal.invariant-loop-place
invariant-loop-place g l = Puts l.initial.failed l.failed (g.K.Sink.told l.initial.sink) (g.K.Sink.told l.sink) (after_spaces (map (name_at l.present.nets) (take l.place l.nets)))
