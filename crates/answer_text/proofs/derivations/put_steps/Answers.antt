use Rattle.std.proofs.Common.{List, map, take_all, sym, ap, arith}
use Rattle.bench_io.proofs.PutParts.{Puts-then, Puts-as, Puts-nothing}
use Rattle.proof_check.specs.declared.derivation.Step.{Step}
use Rattle.proof_check.specs.Written.{step_of}
use Rattle.answer_text.specs.Derivations.{step_lines}
use Rattle.answer_text.proofs.StepLines.{steps_more, named_at}
use Rattle.answer_text.proofs.derivations.put_steps.Goals as goal

pub loop-i-init : goal.loop-i-init
loop-i-init g c = Puts-nothing _ _

pub put_step-failed-requires : goal.put_step-failed-requires
put_step-failed-requires g c = named_at c.args.present.now c.args.steps.now c.requires c.loop-i.i c.at.result.now c.at.ensures

pub loop-i-preserved : goal.loop-i-preserved
loop-i-preserved g c = Puts-as (sym (steps_more c.args.present.now c.args.steps.now c.loop-i.i c.at.result.now c.at.ensures)) (Puts-then c.loop-i.invariant c.put_step-failed.ensures)

pub returns : goal.returns
returns g c = Puts-as (ap (λ (ts : List Step). step_lines c.args.present.now (map step_of ts)) (take_all c.loop-i.i c.args.steps.now (omega (arith, c.loop-i-test.false, c.len-i-end.ensures)))) c.loop-i.invariant
