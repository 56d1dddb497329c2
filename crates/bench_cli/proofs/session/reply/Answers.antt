use Rattle.bench_cli.proofs.session.reply.Goals as goal

pub returns : goal.returns
returns g c = let w = c.write_answer.ensures in (w.0, w.1, c.note.ensures c.args.session.now w.0 w.1, w.2)
