use Rattle.proof_check.specs.Written.{given}
use Rattle.explanations.proofs.Marking.{MarksBelow}
use Rattle.explanations.proofs.marks.mark.Given as goal

abbrev pub invariant-loop-i : goal.invariant-loop-i
invariant-loop-i l = MarksBelow (given l.wanted) l.closed.facts l.fn.marks l.i l.marks
