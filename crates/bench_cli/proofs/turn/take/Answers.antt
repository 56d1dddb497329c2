use Rattle.std.proofs.Common.{Ok, Err, sym, ◌∙◌}
use Rattle.session_undo.specs.Steps.{Reads}
use Rattle.bench_cli.proofs.Serving.{takes, takes_faulty}
use Rattle.bench_cli.proofs.turn.take.Goals as goal

pub returns-in-Ok-clause-takes : goal.returns-in-Ok-clause-takes
returns-in-Ok-clause-takes g c =
    let reads : Reads c.args.line.now (Ok c.in-Ok.request) = record { short = c.requires; reads = sym c.read_line.ensures.reading ∙ c.in-Ok.is } in
    λ reply is. takes c.args.session.now c.args.line.now c.in-Ok.request reply c.serve.new.session reads (c.serve.ensures.serves reply is)

pub returns-in-Err-clause-takes : goal.returns-in-Err-clause-takes
returns-in-Err-clause-takes g c =
    let reads : Reads c.args.line.now (Err c.in-Err.fault) = record { short = c.requires; reads = sym c.read_line.ensures.reading ∙ c.in-Err.is } in
    λ reply is. takes_faulty c.args.session.now c.args.line.now c.in-Err.fault reply reads is
