use Rattle.bench_cli.specs.Summary.{replies_of}
use Rattle.bench_cli.proofs.Ended.{ends_failed, ends_whole, status_is_of_replies}
use Rattle.bench_cli.proofs.making.tell_findings.Goals as goal

pub returns-then-put_summary : goal.returns-then-put_summary
returns-then-put_summary g c =
    ends_failed c.put_summary.result (replies_of c.args.present.now c.args.count c.args.findings.now) _ _ c.if-put_summary.true c.put_summary.ensures

pub returns : goal.returns
returns g c =
    ends_whole c.put_summary.result _ _ _ (replies_of c.args.present.now c.args.count c.args.findings.now) _ _ c.if-put_summary.false c.put_summary.ensures
    c.status.ensures (status_is_of_replies c.args.present.now c.args.count c.args.findings.now)
