use Rattle.std.proofs.lemmas.Result.{err_from_is_err_and}
use Rattle.recorded_inferences.proofs.Noting.{nodes_came, not_noted, noted}
use Rattle.recorded_inferences.proofs.adding.note.Goals as goal

pub returns-in_err-linked-clause-err : goal.returns-in_err-linked-clause-err
returns-in_err-linked-clause-err c =
    let e = err_from_is_err_and c.from_residual.result c.from_residual.ensures.1 in
    rw e.1 (nodes_came c.args.weave.now c.linked.new.weave c.laws.ensures c.linked.ensures.stay c.linked.ensures.inferences)

pub returns-in_err-note-clause-err : goal.returns-in_err-note-clause-err
returns-in_err-note-clause-err c =
    let e = err_from_is_err_and c.from_residual-in_err-note.result c.from_residual-in_err-note.ensures.1 in
    rw e.1 (not_noted c.args.weave.now c.linked.new.weave c.note.new.self c.laws.ensures c.linked.ensures.stay c.linked.ensures.inferences c.note.ensures.nodes c.in_err-note.ensures.err)

pub returns-clause-ok : goal.returns-clause-ok
returns-clause-ok c =
    noted c.args.weave.now c.linked.new.weave c.note.new.self c.laws.ensures c.linked.ensures.stay c.linked.ensures.inferences c.note.ensures.nodes c.in_ok-note.field-0.place c.in_ok-linked.linked c.args.inferred c.in_ok-linked.ensures.fit
    c.in_ok-linked.ensures.told c.in_ok-note.ensures.noted
