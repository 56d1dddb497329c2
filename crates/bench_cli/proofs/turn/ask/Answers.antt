use Rattle.bench_cli.proofs.Answered.{answered}
use Rattle.bench_cli.proofs.turn.ask.Goals as goal

pub returns-in-Ok-clause-serves : goal.returns-in-Ok-clause-serves
returns-in-Ok-clause-serves c = λ reply told. answered c.args.session.now c.ask.new.self c.args.query.now c.in-Ok.answer reply c.in-Ok.ensures.answers.0 c.in-Ok.ensures.answers.1 c.in-Ok.ensures.same told
