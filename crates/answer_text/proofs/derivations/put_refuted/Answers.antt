use Rattle.bench_io.proofs.PutParts.{Puts-then}
use Rattle.answer_text.proofs.derivations.put_refuted.Goals as goal

pub returns : goal.returns
returns g c = λ instance ports. Puts-then (Puts-then (Puts-then (Puts-then c.put-failed.ensures c.put_part_name-failed.ensures) c.put-failed-2.ensures) c.put_facts-failed.ensures) c.put.ensures
