use Rattle.std.proofs.Common.{decimal}
use Rattle.bench_io.proofs.PutParts.{Puts-then, Puts-as}
use Rattle.netlist_text.specs.Show.{words_in}
use Rattle.netlist_text.proofs.ShownParts.{line-with}
use Rattle.netlist_text.proofs.show.put_line_with.Goals as goal

pub returns : goal.returns
returns g c =
    Puts-as (line-with c.args.first.now (decimal c.args.number) (words_in c.args.words.now)) (Puts-then (Puts-then (Puts-then (Puts-then c.put-failed.ensures c.put_words-failed.ensures) c.put-failed-2.ensures) c.put_number-failed.ensures) c.put.ensures)
