use Rattle.std.proofs.Common.{List, subst, refl}
use Rattle.plain_answers.specs.declared.environment.Environment.{Environment}
use Rattle.plain_answers.specs.Subsets.{sets, Keeps}
use Rattle.plain_answers.specs.Tests.{IsLeastIn}
use Rattle.plain_answers.proofs.Loops.{keep_pushed, keep_passed, taken_all}
use Rattle.plain_answers.proofs.keeping.least.Goals as goal
use Rattle.plain_answers.proofs.keeping.least.Goals.{then-is_least+in_ok-push, else-is_least}

pub loop-one-preserved : goal.loop-one-preserved
loop-one-preserved c =
    elim c.if-is_least.branch [
      | then-is_least+in_ok-push w ↦
          rw w.kept-is (keep_pushed c.args.all.now c.loop-one.one-index _ c.loop-one-test.true (IsLeastIn (sets c.args.all.now)) c.loop-one.kept.items _ c.is_least.result c.is_least.ensures w.if-is_least.true w.in_ok-push.ensures.items c.loop-one.invariant)
      | else-is_least w ↦
          rw w.kept-is (keep_passed c.args.all.now c.loop-one.one-index _ c.loop-one-test.true (IsLeastIn (sets c.args.all.now)) c.loop-one.kept.items _ c.is_least.result c.is_least.ensures w.if-is_least.false refl c.loop-one.invariant)
    ]

pub returns : goal.returns
returns c =
    subst (λ (es : List Environment). Keeps (IsLeastIn (sets c.args.all.now)) (sets es) (sets c.loop-one.kept.items)) (taken_all c.args.all.now c.loop-one.one-index c.loop-one-test.false) c.loop-one.invariant
