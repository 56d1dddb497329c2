use Rattle.std.proofs.Common.{[], ◌∷◌, ap, ◌∙◌}
use Rattle.session_undo.specs.Presents.{State}
use Rattle.bench_cli.specs.Summary.{reply_for, replies_of, Made}
use Rattle.bench_cli.proofs.Boxed.{findings_are_told, stop_is_told}
use Rattle.bench_cli.proofs.making.make.Goals as goal

pub returns-in-Err : goal.returns-in-Err
returns-in-Err g c = (reply_for c.in-Err.stop ∷ [], stop_is_told c.args.count c.args.seed c.in-Err.stop c.in-Err.ensures, c.tell_stop.ensures)

pub returns : goal.returns
returns g c =
    let s = c.in-Ok.session in
    let f = c.find-findings.result in
    let present = c.present.ensures ∙ ap (λ (t : State). t.present) c.find-findings.ensures.same in
    (replies_of s.present c.args.count f, Made s c.in-Ok.ensures (findings_are_told s c.args.count f c.find-findings.ensures.found), rw (← present) c.tell_findings.ensures)
