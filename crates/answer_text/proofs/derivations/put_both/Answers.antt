use Rattle.bench_io.proofs.PutParts.{Puts-then, Puts-as}
use Rattle.answer_text.specs.Texts.{fact_text}
use Rattle.answer_text.proofs.StepLines.{with_comma}
use Rattle.answer_text.proofs.derivations.put_both.Goals as goal

pub returns : goal.returns
returns g c = Puts-as (with_comma (fact_text c.args.present.now c.args.first) (fact_text c.args.present.now c.args.second)) (Puts-then (Puts-then c.put_fact-failed.ensures c.put-failed.ensures) c.put_fact.ensures)
