use Rattle.bench_io.proofs.PutParts.{Puts-then}
use Rattle.answer_text.proofs.texts.put_fact.Goals as goal

pub returns : goal.returns
returns g c = Puts-then (Puts-then c.put_cell-failed.ensures c.put-failed.ensures) c.put_number.ensures
