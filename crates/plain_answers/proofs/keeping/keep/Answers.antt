use Rattle.std.proofs.Common.{List, subst, refl}
use Rattle.plain_answers.specs.declared.environment.Environment.{Environment}
use Rattle.plain_answers.specs.Subsets.{sets, Keeps}
use Rattle.plain_answers.specs.Tests.{Passes}
use Rattle.plain_answers.proofs.Loops.{keep_pushed, keep_passed, taken_all}
use Rattle.plain_answers.proofs.keeping.keep.Goals as goal
use Rattle.plain_answers.proofs.keeping.keep.Goals.{then-branch+in_ok-push, else-branch}

pub loop-one-preserved : goal.loop-one-preserved
loop-one-preserved c =
    elim c.if-branch.branch [
      | then-branch+in_ok-push w ↦
          rw w.kept-is (keep_pushed c.args.all.now c.loop-one.one-index _ c.loop-one-test.true (Passes c.args.present.now c.args.test) c.loop-one.kept.items _ c.in_ok-passes.field-0 c.in_ok-passes.ensures w.if-branch.true w.in_ok-push.ensures.items c.loop-one.invariant)
      | else-branch w ↦
          rw w.kept-is (keep_passed c.args.all.now c.loop-one.one-index _ c.loop-one-test.true (Passes c.args.present.now c.args.test) c.loop-one.kept.items _ c.in_ok-passes.field-0 c.in_ok-passes.ensures w.if-branch.false refl c.loop-one.invariant)
    ]

pub returns : goal.returns
returns c =
    subst (λ (es : List Environment). Keeps (Passes c.args.present.now c.args.test) (sets es) (sets c.loop-one.kept.items)) (taken_all c.args.all.now c.loop-one.one-index c.loop-one-test.false) c.loop-one.invariant
