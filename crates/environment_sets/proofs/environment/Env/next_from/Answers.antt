use Rattle.std.proofs.Common.{◌+◌, ◌*◌, ◌≤◌, arith}
use Rattle.environment_sets.specs.declared.environment.TheConstants.{SLOTS, WORD_BITS}
use Rattle.environment_sets.specs.Members.{members}
use Rattle.environment_sets.proofs.Stepping.{HasPassed-word, next_in_word, none_left}
use Rattle.environment_sets.proofs.environment.Env.next_from.Goals as goal

pub returns-in-Some-clause-next : goal.returns-in-Some-clause-next
unfolding members
returns-in-Some-clause-next c = next_in_word c.args.self.now.words c.args.from c.loop-i.i c.loop-i.bit c.loop-i.invariant.passed c.in-Some.found c.in-Some.ensures.below c.in-Some.ensures.next

pub loop-i-preserved : goal.loop-i-preserved
unfolding members
loop-i-preserved c = record {
  low = omega arith;
  passed = HasPassed-word c.args.self.now.words c.args.from c.loop-i.i c.loop-i.bit c.loop-i.invariant.passed c.loop-i.invariant.low c.in_default.ensures.next;
}

pub returns-clause-next : goal.returns-clause-next
returns-clause-next c =
    let past : SLOTS ≤ c.loop-i.i * WORD_BITS + c.loop-i.bit = omega (arith, c.loop-i-test.false) in
    none_left c.args.self.now c.args.from (c.loop-i.i * WORD_BITS + c.loop-i.bit) c.loop-i.invariant.passed past
