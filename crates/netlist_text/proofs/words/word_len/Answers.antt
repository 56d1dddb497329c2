use Rattle.std.proofs.Common.{arith, sym, ◌∙◌}
use Rattle.netlist_text.proofs.Scanned.{HasNoBlank-more}
use Rattle.netlist_text.proofs.words.word_len.Goals as goal

pub loop-i-preserved : goal.loop-i-preserved
loop-i-preserved c = HasNoBlank-more _ _ (omega arith) c.loop-i.invariant (sym c.is_blank.ensures ∙ c.if-is_blank.false)
