use Rattle.component_models.proofs.Adding.{sum_is_exact}
use Rattle.component_models.proofs.sums.infer_sum.Goals as goal

pub returns : goal.returns
returns c = rw c.forced_by_two.ensures (sum_is_exact c.args.width c.bits-bits.ensures.low c.args.a c.args.b c.args.z c.requires.a_fits c.requires.b_fits c.requires.z_fits c.requires.open_port)
