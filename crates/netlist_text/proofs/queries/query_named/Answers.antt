use Rattle.std.proofs.Common.{◌≡◌, codes, sym, ap, arith, rules}
use Rattle.std.proofs.lemmas.Slice.Eq.{text_from_reads}
use Rattle.netlist_text.specs.Queries.{query_named}
use Rattle.netlist_text.proofs.queries.query_named.Goals as goal

pub returns-in-explain : goal.returns-in-explain
unfolding query_named
returns-in-explain c = let same : c.args.word.now ≡ codes "explain" = text_from_reads _ _ (omega arith) (search rules) in sym (ap query_named same)

pub returns-in-diagnose : goal.returns-in-diagnose
unfolding query_named
returns-in-diagnose c = let same : c.args.word.now ≡ codes "diagnose" = text_from_reads _ _ (omega arith) (search rules) in sym (ap query_named same)

pub returns-in-conflicts : goal.returns-in-conflicts
unfolding query_named
returns-in-conflicts c = let same : c.args.word.now ≡ codes "conflicts" = text_from_reads _ _ (omega arith) (search rules) in sym (ap query_named same)
