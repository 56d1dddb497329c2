use Rattle.std.proofs.Common.{List, subst}
use Rattle.plain_answers.specs.declared.environment.Environment.{Environment}
use Rattle.plain_answers.specs.Subsets.{sets, place_of, IsDoubled}
use Rattle.plain_answers.proofs.Loops.{doubled_more, taken_all}
use Rattle.plain_answers.proofs.subsets.doubled.Goals as goal

pub loop-one-preserved : goal.loop-one-preserved
loop-one-preserved c =
    doubled_more c.args.all.now c.loop-one.one-index _ c.loop-one-test.true (place_of c.args.name) c.with.result c.loop-one.both.items c.push.new.self.items c.push-in-loop-one.new.self.items c.with.ensures c.in_ok-push.ensures.items c.in_ok-push-2.ensures.items c.loop-one.invariant

pub returns : goal.returns
returns c =
    subst (λ (es : List Environment). IsDoubled c.args.name (sets es) (sets c.loop-one.both.items)) (taken_all c.args.all.now c.loop-one.one-index c.loop-one-test.false) c.loop-one.invariant
