use Rattle.bench_cli.proofs.Boxed.{Advances}
use Rattle.bench_cli.proofs.making.change_all.Given as goal

abbrev pub invariant-loop-change : goal.invariant-loop-change
invariant-loop-change l = Advances l.fn.session l.changes l.change-index l.session
