use Rattle.bench_cli.specs.Turns.{Sofar}
use Rattle.bench_io.specs.Reading.{lines_ahead}
use Rattle.bench_cli.proofs.session.run.Given as goal

abbrev pub invariant-loop-answer : goal.invariant-loop-answer
invariant-loop-answer g l = Sofar (g.S.Source.told l.initial.source) (g.S.Source.told l.source) (g.K.Sink.told l.initial.sink) (g.K.Sink.told l.sink) l.reader l.session l.tally

abbrev pub decreases-loop-answer : goal.decreases-loop-answer
decreases-loop-answer g l = lines_ahead l.reader
