use Rattle.std.proofs.Common.{◌≡◌, ℕ, ◌+◌, ◌<◌, ◌≤◌, length, drop, get_or, sym, ◌∙◌, ap, subst, bit_or, arith}
use Rattle.std.proofs.lemmas.List.{at_drop_more}
use Rattle.std.proofs.Math.ListN.{drop_of_length-le}
use Rattle.std.specs.Int.Bits.{or_zero_l, or_zero_r}
use Rattle.environment_sets.specs.Members.{members}
use Rattle.environment_sets.specs.Signatures.{union_of, signature, IsSignature}
use Rattle.environment_sets.proofs.Signed.{is_signature, union_with_next}
use Rattle.environment_sets.proofs.environment.Env.signature.Goals as goal

pub loop-i-init : goal.loop-i-init
loop-i-init c = or_zero_l (union_of c.args.self.now.words)

pub loop-i-preserved : goal.loop-i-preserved
loop-i-preserved c =
    let words = c.args.self.now.words in
    let i : ℕ = c.loop-i.i in
    let inside : i < length words = omega (arith, c.args.self.now.full, c.loop-i-test.true) in
    union_with_next (drop (i + 1) words) c.loop-i.signature (get_or words i 0)
    ∙ (ap (λ w. bit_or c.loop-i.signature w) (sym (at_drop_more union_of words i 0 inside)) ∙ c.loop-i.invariant)

pub returns : goal.returns
unfolding signature
returns c =
    let self = c.args.self.now in
    let past : length self.words ≤ c.loop-i.i = omega (arith, self.full, c.loop-i-test.false) in
    let done : c.loop-i.signature ≡ signature self = sym (or_zero_r c.loop-i.signature) ∙ (ap (λ ws. bit_or c.loop-i.signature (union_of ws)) (sym (drop_of_length-le self.words past)) ∙ c.loop-i.invariant) in
    record { word = done; bits = subst (λ (w : ℕ). IsSignature w (members self)) (sym done) (is_signature self) }
