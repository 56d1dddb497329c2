use Rattle.std.proofs.Common.{◌<◌, ◌/◌, true, false, arith, refl}
use Rattle.std.proofs.lemmas.Bool.{false≢true}
use Rattle.environment_sets.specs.Sets.{◌⊆◌}
use Rattle.environment_sets.specs.Members.{members}
use Rattle.environment_sets.specs.declared.environment.TheConstants.{SLOTS, WORD_BITS}
use Rattle.environment_sets.proofs.Slots.{slots_are_below}
use Rattle.environment_sets.proofs.Words.{words_within, within_words}
use Rattle.environment_sets.proofs.Within.{is_within_test}
use Rattle.environment_sets.proofs.environment.Env.is_subset.Goals as goal

pub returns-then-self-i : goal.returns-then-self-i
unfolding members
returns-then-self-i c =
    let E = members c.args.self.now in
    let F = members c.args.other.now in
    let out : E ⊆ F → ⊥ = λ within. c.if-self-i.true (within_words c.args.self.now.words c.args.other.now.words c.loop-i.i (c.args.self.now.fit c.loop-i.i) within) in
    record {
      subset = (λ no. absurd (false≢true no), λ within. absurd (out within));
      test = is_within_test SLOTS E F false (slots_are_below c.args.self.now) (λ no. absurd (false≢true no)) (λ within. absurd (out within));
    }

pub returns : goal.returns
unfolding members
returns c =
    let E = members c.args.self.now in
    let F = members c.args.other.now in
    let all : E ⊆ F = λ k inside.
    let low : k < SLOTS = slots_are_below c.args.self.now k inside in
    words_within c.args.self.now.words c.args.other.now.words k (c.loop-i.invariant (k / WORD_BITS) (omega arith)) inside in
    record {
      subset = (λ _. all, λ _. refl);
      test = is_within_test SLOTS E F true (slots_are_below c.args.self.now) (λ _. all) (λ _. refl);
    }
