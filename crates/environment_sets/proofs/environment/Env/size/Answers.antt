use Rattle.std.proofs.Common.{arith, sym, ap, ◌+◌, ◌∙◌, get_or}
use Rattle.std.specs.Int.RustNames.{count_ones}
use Rattle.std.proofs.lemmas.Nat.{ones-le}
use Rattle.environment_sets.specs.declared.environment.TheConstants.{WORD_BITS}
use Rattle.environment_sets.specs.Members.{members}
use Rattle.environment_sets.proofs.Sizes.{size_below-zero}
use Rattle.environment_sets.proofs.Words.{size_below-word}
use Rattle.environment_sets.proofs.environment.Env.size.Goals as goal

pub loop-i-init : goal.loop-i-init
loop-i-init c = record { counted = sym (size_below-zero _); few = omega arith }

pub loop-i-preserved : goal.loop-i-preserved
unfolding members
loop-i-preserved c =
    let words = c.args.self.now.words in
    let i = c.loop-i.i in
    let fit = c.args.self.now.fit i in
    record {
      counted = ap (λ n. n + count_ones (get_or words i 0)) c.loop-i.invariant.counted ∙ sym (size_below-word words i fit);
      few = omega (arith, c.loop-i.invariant.few, ones-le WORD_BITS (get_or words i 0) fit);
    }
