use Rattle.bench_io.proofs.PutParts.{Puts-then}
use Rattle.netlist_text.proofs.show.put_line.Goals as goal

pub returns : goal.returns
returns g c = Puts-then (Puts-then c.put-failed.ensures c.put_words-failed.ensures) c.put.ensures
