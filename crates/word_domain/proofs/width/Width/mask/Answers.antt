use Rattle.std.proofs.Common.{◌≤◌, arith}
use Rattle.word_domain.proofs.Masks.{two_words}
use Rattle.word_domain.proofs.width.Width.mask.Goals as goal

pub returns-clause-low : goal.returns-clause-low
returns-clause-low c =
    let low : 1 ≤ c.args.self = omega (arith, c.self.view_is, c.self.invariant.0) in
    two_words c.args.self low
