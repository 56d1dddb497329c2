use Rattle.bench_io.proofs.PutParts.{Puts-then}
use Rattle.answer_text.proofs.chosen.put_chosen.Goals as goal

pub returns : goal.returns
returns g c = Puts-then (Puts-then (Puts-then (Puts-then c.put-failed.ensures c.put_chosen_parts-failed.ensures) c.put-failed-2.ensures) c.put_chosen_cells-failed.ensures) c.put.ensures
