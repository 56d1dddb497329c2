use Rattle.bench_io.proofs.PutParts.{Puts-then}
use Rattle.answer_text.proofs.texts.put_next_cell.Goals as goal

pub returns : goal.returns
returns g c = rw c.if-is_first.false (Puts-then c.put-failed.ensures c.put_cell-2.ensures)
