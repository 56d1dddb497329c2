use Rattle.bench_io.proofs.PutParts.{Puts-then, Writes-failed, Writes-done}
use Rattle.answer_text.proofs.derivations.write_derivation.Goals as goal

pub returns-then-put : goal.returns-then-put
returns-then-put g c = Writes-failed c.if-put.true (Puts-then (Puts-then c.put_under-failed.ensures c.put_derivation-failed.ensures) c.put.ensures)

pub returns : goal.returns
returns g c = Writes-done c.if-put.false (Puts-then (Puts-then c.put_under-failed.ensures c.put_derivation-failed.ensures) c.put.ensures)
