use Rattle.std.proofs.Common.{sym, ◌∙◌, arith}
use Rattle.proof_check.specs.Closing.{Timed}
use Rattle.explanations.proofs.Listed.{is_by_from, is_by-other, word_by-here, word_by-later, word_by-past, word_by-end}
use Rattle.explanations.proofs.words.word_by.Goals as goal

pub returns-then-first_round-round : goal.returns-then-first_round-round
returns-then-first_round-round c =
    let t : Timed = record { fact = c.at-first_round.result.0; round = c.at-first_round.result.1 } in
    sym (c.loop-i.invariant ∙ word_by-past c.args.round c.args.cell c.args.closed.now.facts c.requires c.loop-i.i t c.at-first_round.ensures c.if-first_round-round.true)

pub returns-then-is_cell : goal.returns-then-is_cell
returns-then-is_cell c =
    let t : Timed = record { fact = c.at-first_round.result.0; round = c.at-first_round.result.1 } in
    sym (c.loop-i.invariant ∙ word_by-here c.args.round c.args.cell c.args.closed.now.facts c.loop-i.i t c.at-first_round.ensures (is_by_from c.args.round c.args.cell t (sym c.is_cell.ensures ∙ c.if-is_cell.true) c.if-first_round-round.false))

pub loop-i-preserved : goal.loop-i-preserved
loop-i-preserved c =
    let t : Timed = record { fact = c.at-first_round.result.0; round = c.at-first_round.result.1 } in
    c.loop-i.invariant ∙ word_by-later c.args.round c.args.cell c.args.closed.now.facts c.loop-i.i t c.at-first_round.ensures (is_by-other c.args.round c.args.cell t (sym c.is_cell.ensures ∙ c.if-is_cell.false))

pub returns : goal.returns
returns c = sym (c.loop-i.invariant ∙ word_by-end c.args.round c.args.cell c.args.closed.now.facts c.loop-i.i (omega (arith, c.len-i-end.ensures, c.loop-i-test.false)))
