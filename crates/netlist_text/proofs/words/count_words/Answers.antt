use Rattle.std.proofs.Common.{arith, ◌≡◌, suc, ap, length}
use Rattle.netlist_text.specs.Words.{words_of}
use Rattle.netlist_text.proofs.Scanned.{words_within}
use Rattle.netlist_text.proofs.words.count_words.Goals as goal

pub overflow_add-count : goal.overflow_add-count
overflow_add-count c =
    let more : length (words_of c.loop-rest.left.now) ≡ suc (length (words_of c.in-Some.rest.now)) = ap length c.in-Some.ensures.words in
    omega (arith, more, c.loop-rest.invariant, words_within c.args.line.now)
