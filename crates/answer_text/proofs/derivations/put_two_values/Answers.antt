use Rattle.bench_io.proofs.PutParts.{Puts-then}
use Rattle.answer_text.proofs.derivations.put_two_values.Goals as goal

pub returns : goal.returns
returns g c = Puts-then (Puts-then (Puts-then (Puts-then c.put-failed.ensures c.put_fact-failed.ensures) c.put-failed-2.ensures) c.put_fact-failed-2.ensures) c.put.ensures
