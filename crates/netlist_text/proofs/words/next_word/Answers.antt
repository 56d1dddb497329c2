use Rattle.std.proofs.Common.{arith, sym, ◌∙◌, ◌<◌, ap, subst, ℕ, take, drop, length, length-take, take-append-drop}
use Rattle.bench_io.proofs.Bytes.{take_rest}
use Rattle.netlist_text.specs.Words.{words_of}
use Rattle.netlist_text.specs.Scanning.{BeginsBlank}
use Rattle.netlist_text.proofs.Scanned.{skipped, no_word, word_then}
use Rattle.netlist_text.proofs.words.next_word.Goals as goal

pub returns-then-len-eq0 : goal.returns-then-len-eq0
returns-then-len-eq0 c =
    let s = c.skip_blanks-front.ensures in
    let P : ℕ → Type 0 = λ n. BeginsBlank (drop n c.skip_blanks-front.result.now) in
    ap words_of s.split ∙ (skipped _ _ s.each ∙ no_word _ s.begins (subst P c.if-len-eq0.true c.word_len-len.ensures.ends))

pub returns : goal.returns
returns c =
    let s = c.skip_blanks-front.ensures in
    let w = c.word_len-len.ensures in
    let front = c.skip_blanks-front.result.now in
    let some : 0 < length (take c.word_len-len.result front) = omega (arith, length-take c.word_len-len.result front, w.within) in
    record {
      some = some;
      words = rw take_rest (ap words_of s.split ∙ (skipped _ _ s.each ∙ (ap words_of (sym (take-append-drop c.word_len-len.result front)) ∙ word_then _ _ w.each some w.ends)));
    }
