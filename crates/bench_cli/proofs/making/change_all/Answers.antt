use Rattle.bench_cli.proofs.Boxed.{Advances-none, Advances-more, Advances-stopped, Advances-all}
use Rattle.bench_cli.proofs.making.change_all.Goals as goal

pub loop-change-init : goal.loop-change-init
loop-change-init c = Advances-none _ _

pub loop-change-preserved : goal.loop-change-preserved
loop-change-preserved c =
    let made = c.in_default.ensures in
    Advances-more _ _ _ _ _ c.change-item.result c.loop-change-test.true c.change-item.is c.loop-change.invariant made.0 made.1

pub returns-in-Err : goal.returns-in-Err
returns-in-Err c =
    let stopped = c.in-Err.ensures in
    Advances-stopped _ _ _ _ c.change-item.result c.in-Err.stop c.loop-change-test.true c.change-item.is c.loop-change.invariant stopped.0

pub returns : goal.returns
returns c = Advances-all _ _ _ _ c.loop-change-test.false c.loop-change.invariant
