use Rattle.component_models.proofs.Pairs.{not_is_exact}
use Rattle.component_models.proofs.copies.infer_not.Goals as goal

pub returns : goal.returns
returns c = rw (c.complement.ensures, c.complement-2.ensures) (not_is_exact c.args.width c.bits-bits.ensures.low c.args.a c.args.z c.requires.a_fits c.requires.z_fits c.requires.open_port)
