use Rattle.bench_io.proofs.PutParts.{Puts-then}
use Rattle.answer_text.proofs.derivations.put_from_with.Goals as goal

pub returns : goal.returns
returns g c = Puts-then c.put-failed.ensures c.put_fact_with.ensures
