use Rattle.bench_io.proofs.PutParts.{Puts-then}
use Rattle.answer_text.proofs.derivations.put_measured.Goals as goal

pub returns : goal.returns
returns g c = Puts-then c.put_fact-failed.ensures c.put.ensures
