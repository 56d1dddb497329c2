use Rattle.std.proofs.Common.{◌≡◌, ◌+◌, length}
use Rattle.netlist_text.specs.Words.{words_of}
use Rattle.netlist_text.proofs.words.count_words.Given as goal

abbrev pub invariant-loop-rest : goal.invariant-loop-rest
invariant-loop-rest l = l.count + length (words_of l.left) ≡ length (words_of l.line)

abbrev pub decreases-loop-rest : goal.decreases-loop-rest
decreases-loop-rest l = length (words_of l.left)
