use Rattle.assumption_slots.specs.Slots as slots
use Rattle.answer_text.proofs.LabelLines.{remembered, puts_no_words, puts_word, all_words}
use Rattle.bench_io.proofs.PutParts.{Puts-then, Writes-failed, Writes-done}
use Rattle.answer_text.proofs.labels.write_label.Goals as goal

pub words-init : goal.words-init
words-init g c = puts_no_words c.args.present.now c.args.cell _ _

pub value_after-requires : goal.value_after-requires
value_after-requires g c = remembered (slots.stock c.args.engine.now.slots) c.args.standing.now c.args.present.now c.requires.stands

pub words-preserved : goal.words-preserved
words-preserved g c = puts_word c.args.present.now c.args.cell c.in-Some.value c.words.invariant (c.in-Some.ensures.next c.args.present.now c.requires.stands.parked c.requires.stands.stands) c.put_label-failed.ensures

pub returns-then-put : goal.returns-then-put
returns-then-put g c =
    let all = all_words c.args.present.now c.args.cell c.words.invariant (c.in_default.ensures.next c.args.present.now c.requires.stands.parked c.requires.stands.stands) in
    (all.0, all.1, Writes-failed c.if-put.true (Puts-then all.2 c.put.ensures))

pub returns : goal.returns
returns g c =
    let all = all_words c.args.present.now c.args.cell c.words.invariant (c.in_default.ensures.next c.args.present.now c.requires.stands.parked c.requires.stands.stands) in
    (all.0, all.1, Writes-done c.if-put.false (Puts-then all.2 c.put.ensures))
