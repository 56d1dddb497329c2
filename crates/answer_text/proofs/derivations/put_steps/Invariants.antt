use Rattle.std.proofs.Common.{map, take}
use Rattle.bench_io.specs.Puts.{Puts}
use Rattle.proof_check.specs.Written.{step_of}
use Rattle.answer_text.specs.Derivations.{step_lines}
use Rattle.answer_text.proofs.derivations.put_steps.Given as goal

abbrev pub invariant-loop-i : goal.invariant-loop-i
invariant-loop-i g l = Puts l.initial.failed l.failed (g.K.Sink.told l.initial.sink) (g.K.Sink.told l.sink) (step_lines l.present (map step_of (take l.i l.steps)))
