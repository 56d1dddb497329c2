use Rattle.bench_io.proofs.PutParts.{Puts-then}
use Rattle.answer_text.proofs.derivations.put_inferred.Goals as goal

pub returns : goal.returns
returns g c = λ instance ports. Puts-then (Puts-then (Puts-then (Puts-then c.put_fact-failed.ensures c.put-failed.ensures) c.put_part_name-failed.ensures) c.put_from-failed.ensures) c.put.ensures
