use Rattle.std.proofs.Common.{codes}
use Rattle.bench_io.proofs.PutParts.{Puts-then, Puts-as}
use Rattle.session_undo.specs.Replies.{text_of}
use Rattle.bench_cli.specs.Summary.{count_line, count_reply, probe_reply}
use Rattle.bench_cli.proofs.Ended.{texts_in_a_row}
use Rattle.bench_cli.proofs.making.put_summary.Goals as goal

pub returns : goal.returns
returns g c =
    let f = c.args.findings.now in
    Puts-as
    (texts_in_a_row (count_line (codes "boxes") c.args.count) (text_of (count_reply (codes "conflicts") f.conflicts)) (text_of (count_reply (codes "diagnoses") f.diagnoses)) (text_of (probe_reply c.args.present.now f.best)))
    (Puts-then (Puts-then (Puts-then c.put_count-failed.ensures c.put_counted-failed.ensures) c.put_counted-failed-2.ensures) c.put_found.ensures)
