use Rattle.bench_io.proofs.PutParts.{Puts-then}
use Rattle.bench_io.proofs.putting.put_piece.Goals as goal

pub returns : goal.returns
returns g c = rw c.if-is_first.false (Puts-then c.put-failed.ensures c.put-2.ensures)
