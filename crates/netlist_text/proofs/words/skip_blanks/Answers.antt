use Rattle.std.proofs.Common.{arith, rules, sym, ◌∙◌}
use Rattle.netlist_text.proofs.Scanned.{AreBlanks-more}
use Rattle.netlist_text.proofs.words.skip_blanks.Goals as goal

pub loop-i-preserved : goal.loop-i-preserved
loop-i-preserved c = AreBlanks-more _ _ (omega arith) c.loop-i.invariant (sym c.is_blank.ensures ∙ search rules)
