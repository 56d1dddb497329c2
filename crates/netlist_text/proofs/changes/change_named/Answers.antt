use Rattle.std.proofs.Common.{◌≡◌, codes, sym, ap, arith, rules}
use Rattle.std.proofs.lemmas.Slice.Eq.{text_from_reads}
use Rattle.netlist_text.specs.Changes.{change_named}
use Rattle.netlist_text.proofs.changes.change_named.Goals as goal

pub returns-in-cycles : goal.returns-in-cycles
unfolding change_named
returns-in-cycles c = let same : c.args.word.now ≡ codes "cycles" = text_from_reads _ _ (omega arith) (search rules) in sym (ap change_named same)

pub returns-in-define : goal.returns-in-define
unfolding change_named
returns-in-define c = let same : c.args.word.now ≡ codes "define" = text_from_reads _ _ (omega arith) (search rules) in sym (ap change_named same)

pub returns-in-measure : goal.returns-in-measure
unfolding change_named
returns-in-measure c = let same : c.args.word.now ≡ codes "measure" = text_from_reads _ _ (omega arith) (search rules) in sym (ap change_named same)

pub returns-in-retract : goal.returns-in-retract
unfolding change_named
returns-in-retract c = let same : c.args.word.now ≡ codes "retract" = text_from_reads _ _ (omega arith) (search rules) in sym (ap change_named same)
