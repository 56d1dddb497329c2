use Rattle.bench_io.proofs.PutParts.{Puts-then}
use Rattle.answer_text.proofs.derivations.put_under.Goals as goal

pub returns : goal.returns
returns g c = Puts-then (Puts-then c.put-failed.ensures c.put_chosen-failed.ensures) c.put.ensures
