use Rattle.bench_io.proofs.PutParts.{Puts-then}
use Rattle.answer_text.proofs.texts.put_label_line.Goals as goal

pub returns : goal.returns
returns g c = Puts-then (Puts-then (Puts-then c.put_fact-failed.ensures c.put-failed.ensures) c.put_environment-failed.ensures) c.put.ensures
