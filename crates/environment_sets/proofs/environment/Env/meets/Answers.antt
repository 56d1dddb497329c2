use Rattle.std.proofs.Common.{arith, refl}
use Rattle.std.proofs.lemmas.Bool.{false≢true}
use Rattle.environment_sets.specs.Members.{members}
use Rattle.environment_sets.proofs.Words.{words_meet, words_miss}
use Rattle.environment_sets.proofs.environment.Env.meets.Goals as goal

pub returns-then-self-i-ne0 : goal.returns-then-self-i-ne0
unfolding members
returns-then-self-i-ne0 c =
    let self = c.args.self.now in
    (λ _. words_meet self.words c.args.other.now.words c.loop-i.i (self.fit c.loop-i.i) c.if-self-i-ne0.true, λ _. refl)

pub returns : goal.returns
unfolding members
returns c =
    let self = c.args.self.now in
    (λ no. absurd (false≢true no), λ hit. absurd (words_miss self.words c.args.other.now.words (λ i low. c.loop-i.invariant i (omega (arith, low, self.full, c.loop-i-test.false))) hit))
