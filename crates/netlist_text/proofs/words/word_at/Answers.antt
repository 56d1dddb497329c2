use Rattle.std.proofs.Common.{arith, ◌≡◌, ◌-◌, sym, ◌∙◌, ap}
use Rattle.netlist_text.specs.Words.{words_of, word_at}
use Rattle.netlist_text.proofs.Scanned.{word_after}
use Rattle.netlist_text.proofs.words.word_at.Goals as goal

pub loop-before-preserved : goal.loop-before-preserved
loop-before-preserved c =
    ap (λ words. word_at words (c.loop-before.before - 1)) c.first_word.ensures.rest ∙ (sym (word_after _ c.loop-before.before (omega arith)) ∙ c.loop-before.invariant)

pub returns : goal.returns
returns c =
    let none : c.loop-before.before ≡ 0 = omega arith in
    c.first_word-2.ensures.word ∙ (ap (word_at (words_of c.loop-before.left.now)) (sym none) ∙ c.loop-before.invariant)
