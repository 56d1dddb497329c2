use Rattle.std.proofs.Common.{◌≡◌, ◌+◌, ◌-◌, ◌^◌, arith}
use Rattle.word_domain.proofs.Masks.{and_with_mask, sum-difference}
use Rattle.word_domain.proofs.width.Width.difference_mod.Goals as goal

pub returns-clause-value : goal.returns-clause-value
returns-clause-value c =
    let size : c.mask.result + 1 ≡ 2 ^ c.args.self = omega arith in
    rw size (and_with_mask _ _ _ c.mask-2.ensures.value)

pub returns-clause-sum : goal.returns-clause-sum
returns-clause-sum c =
    let size : c.mask.result + 1 ≡ 2 ^ c.args.self = omega arith in
    rw (size, and_with_mask c.args.self (c.args.a + (2 ^ c.args.self - c.args.b)) _ c.mask-2.ensures.value) (sum-difference _ _ _ c.requires.a_fits c.requires.b_fits)
