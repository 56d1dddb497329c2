use Rattle.std.proofs.Common.{List, take_all, sym, ap, arith}
use Rattle.environment_sets.specs.declared.environment.Env.{Env}
use Rattle.environment_sets.specs.Members.{sets}
use Rattle.answer_text.specs.Texts.{components_lines}
use Rattle.answer_text.proofs.Naming.{lines_more}
use Rattle.bench_io.proofs.PutParts.{Puts-then, Puts-as, Puts-nothing, Writes-failed, Writes-done}
use Rattle.answer_text.proofs.sets.write_sets.Goals as goal

pub loop-i-init : goal.loop-i-init
loop-i-init g c = Puts-nothing _ _

pub loop-i-preserved : goal.loop-i-preserved
loop-i-preserved g c = Puts-as (sym (lines_more c.args.present.now c.args.found.now c.loop-i.i c.at.result c.at.ensures)) (Puts-then c.loop-i.invariant c.put_set-failed.ensures)

pub returns-then-put : goal.returns-then-put
returns-then-put g c =
    Writes-failed c.if-put.true
    (Puts-then (Puts-as (ap (λ (es : List Env). components_lines c.args.present.now (sets es)) (take_all c.loop-i.i c.args.found.now (omega (arith, c.loop-i-test.false, c.len-i-end.ensures)))) c.loop-i.invariant) c.put.ensures)

pub returns : goal.returns
returns g c =
    Writes-done c.if-put.false
    (Puts-then (Puts-as (ap (λ (es : List Env). components_lines c.args.present.now (sets es)) (take_all c.loop-i.i c.args.found.now (omega (arith, c.loop-i-test.false, c.len-i-end.ensures)))) c.loop-i.invariant) c.put.ensures)
