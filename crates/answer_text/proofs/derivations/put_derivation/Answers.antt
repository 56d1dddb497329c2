use Rattle.bench_io.proofs.PutParts.{Puts-then}
use Rattle.answer_text.proofs.derivations.put_derivation.Goals as goal

pub returns : goal.returns
returns g c = Puts-then c.put_steps-failed.ensures c.put_ending.ensures
