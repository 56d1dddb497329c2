use Rattle.bench_io.proofs.PutParts.{Puts-then}
use Rattle.netlist_text.proofs.show.put_cell.Goals as goal

pub returns : goal.returns
returns g c = rw (c.net_at-name.ensures, ← c.bytes.ensures.bytes) (Puts-then c.put-failed.ensures c.put_cycle.ensures)
