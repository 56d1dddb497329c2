use Rattle.std.proofs.Common.{false, take}
use Rattle.environment_sets.specs.Members.{sets}
use Rattle.bench_io.specs.Puts.{Puts}
use Rattle.answer_text.specs.Texts.{components_lines}
use Rattle.answer_text.proofs.sets.write_sets.Given as goal

abbrev pub invariant-loop-i : goal.invariant-loop-i
invariant-loop-i g l = Puts false l.failed (g.K.Sink.told l.initial.sink) (g.K.Sink.told l.sink) (components_lines l.present (sets (take l.i l.found)))
