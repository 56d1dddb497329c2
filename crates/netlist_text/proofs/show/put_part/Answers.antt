use Rattle.bench_io.proofs.PutParts.{Puts-then}
use Rattle.netlist_text.proofs.show.put_part.Goals as goal

pub returns : goal.returns
returns g c = rw (← c.net_names.ensures, ← c.word_of_kind.ensures) (Puts-then (Puts-then c.put-failed.ensures c.put_ports-failed.ensures) c.put.ensures)
