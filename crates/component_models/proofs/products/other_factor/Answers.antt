use Rattle.component_models.proofs.Multiplying.{zero_factor}
use Rattle.component_models.proofs.products.other_factor.Goals as goal

pub returns-then-factor-eq0 : goal.returns-then-factor-eq0
returns-then-factor-eq0 c = rw c.if-factor-eq0.true (zero_factor c.args.width c.args.product c.bits-bits.ensures.low)
