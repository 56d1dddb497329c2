use Rattle.bench_cli.proofs.Performing.{no_run, performs_make}
use Rattle.bench_cli.proofs.gde.Goals as goal

pub returns-then-is_make-clause-performs : goal.returns-then-is_make-clause-performs
returns-then-is_make-clause-performs g c =
    performs_make c.args.words.now c.make.result _ _ _ _ _ (c.is_make.ensures.0 c.if-is_make.true)
    (no_run c.args.words.now _ _ c.is_plain_run.ensures c.is_ordered_run.ensures c.if-is_plain_run.false c.if-is_ordered_run.false)
    c.boxes_of.ensures c.seed_of.ensures c.make.ensures
