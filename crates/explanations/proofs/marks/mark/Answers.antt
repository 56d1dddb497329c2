use Rattle.std.proofs.Common.{◌+◌, List, Bool, sym, subst, ◌∙◌, true≢false, arith}
use Rattle.proof_check.specs.Closing.{Timed}
use Rattle.proof_check.specs.Written.{given}
use Rattle.explanations.proofs.Marking.{MarksBelow, marks_none, marks_set, marks_kept, marks_all}
use Rattle.explanations.proofs.marks.mark.Goals as goal
use Rattle.explanations.proofs.marks.mark.Goals.{then-is_among, else-is_among}

pub loop-i-init : goal.loop-i-init
loop-i-init c = marks_none (given c.args.wanted.now) c.args.closed.now.facts c.args.marks.now

pub loop-i-preserved : goal.loop-i-preserved
loop-i-preserved c =
    let t : Timed = record { fact = c.at.result.0; round = c.at.result.1 } in
    let Q : List Bool → Type 0 = λ marks. MarksBelow (given c.args.wanted.now) c.args.closed.now.facts c.args.marks.now (c.loop-i.i + 1) marks in
    elim c.if-is_among.branch [
      | then-is_among w ↦
          subst Q (sym w.marks-is) (marks_set (given c.args.wanted.now) c.args.closed.now.facts c.args.marks.now c.loop-i.i c.loop-i.marks c.loop-i.invariant t c.at.ensures (c.is_among.ensures.0 w.if-is_among.true) (omega (arith, c.loop-i-test.true, c.len-i-end.ensures, c.loop-i.auto.marks, c.requires)))
      | else-is_among w ↦
          subst Q (sym w.marks-is) (marks_kept (given c.args.wanted.now) c.args.closed.now.facts c.args.marks.now c.loop-i.i c.loop-i.marks c.loop-i.invariant t c.at.ensures (λ h. true≢false (sym (c.is_among.ensures.1 h) ∙ w.if-is_among.false)))
    ]

pub returns : goal.returns
returns c = marks_all (given c.args.wanted.now) c.args.closed.now.facts c.args.marks.now c.loop-i.i c.loop-i.marks (omega (arith, c.len-i-end.ensures, c.loop-i-test.false)) c.loop-i.invariant
