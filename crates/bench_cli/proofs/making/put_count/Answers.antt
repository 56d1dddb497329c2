use Rattle.bench_io.proofs.PutParts.{Puts-then}
use Rattle.bench_cli.proofs.making.put_count.Goals as goal

pub returns : goal.returns
returns g c = Puts-then (Puts-then (Puts-then c.put-failed.ensures c.put-failed-2.ensures) c.put_number-failed.ensures) c.put.ensures
