use Rattle.std.proofs.Common.{List, subst}
use Rattle.plain_answers.specs.declared.environment.Environment.{Environment}
use Rattle.plain_answers.specs.Members.{members}
use Rattle.plain_answers.specs.Subsets.{sets}
use Rattle.plain_answers.specs.Tests.{IsLeastIn}
use Rattle.plain_answers.proofs.Loops.{least_more, not_least, taken_all}
use Rattle.plain_answers.proofs.keeping.is_least.Goals as goal

pub loop-other-preserved : goal.loop-other-preserved
loop-other-preserved c =
    least_more c.args.all.now c.loop-other.other-index _ c.loop-other-test.true (members c.args.one.now) c.if-is_smaller.ensures c.loop-other.invariant

pub returns-then-is_smaller : goal.returns-then-is_smaller
returns-then-is_smaller c =
    not_least c.args.all.now c.loop-other.other-index _ c.loop-other-test.true (members c.args.one.now) c.if-is_smaller.ensures.0 c.if-is_smaller.ensures.1

pub returns : goal.returns
returns c =
    subst (λ (es : List Environment). IsLeastIn (sets es) (members c.args.one.now)) (taken_all c.args.all.now c.loop-other.other-index c.loop-other-test.false) c.loop-other.invariant
