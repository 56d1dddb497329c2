use Rattle.std.proofs.Common.{◌≡◌, drop}
use Rattle.explanations.specs.Words.{word_by}
use Rattle.explanations.proofs.words.word_by.Given as goal

abbrev pub invariant-loop-i : goal.invariant-loop-i
invariant-loop-i l = word_by l.closed.facts l.round l.cell ≡ word_by (drop l.i l.closed.facts) l.round l.cell
