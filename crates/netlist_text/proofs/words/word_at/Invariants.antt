use Rattle.std.proofs.Common.{◌≡◌}
use Rattle.netlist_text.specs.Words.{words_of, word_at}
use Rattle.netlist_text.proofs.words.word_at.Given as goal

abbrev pub invariant-loop-before : goal.invariant-loop-before
invariant-loop-before l = word_at (words_of l.left) l.before ≡ word_at (words_of l.line) l.place

abbrev pub decreases-loop-before : goal.decreases-loop-before
decreases-loop-before l = l.before
