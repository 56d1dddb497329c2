use Rattle.std.proofs.Common.{[], ◌∷◌, ◌∙◌, sym}
use Rattle.std.proofs.lemmas.List.{append-nil}
use Rattle.bench_io.proofs.PutParts.{Puts-as}
use Rattle.session_undo.specs.Replies.{text_of}
use Rattle.bench_cli.specs.Summary.{reply_for}
use Rattle.bench_cli.proofs.Ended.{ends_failed, ends_whole, status_is_of_stop, status_as_flags}
use Rattle.bench_cli.proofs.making.tell_stop.Goals as goal

pub returns-then-put_stop : goal.returns-then-put_stop
returns-then-put_stop g c =
    ends_failed c.put_stop.result (reply_for c.args.stop.now ∷ []) _ _ c.if-put_stop.true (Puts-as (sym (append-nil (text_of (reply_for c.args.stop.now)))) c.put_stop.ensures)

pub returns : goal.returns
returns g c =
    ends_whole c.put_stop.result _ _ _ (reply_for c.args.stop.now ∷ []) _ _ c.if-put_stop.false (Puts-as (sym (append-nil (text_of (reply_for c.args.stop.now)))) c.put_stop.ensures)
    (c.status_of_stop.ensures ∙ status_as_flags c.args.stop.now) (status_is_of_stop c.args.stop.now)
