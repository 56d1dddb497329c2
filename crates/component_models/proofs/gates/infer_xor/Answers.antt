use Rattle.component_models.proofs.Parity.{xor_is_exact}
use Rattle.component_models.proofs.Fitting.{forced_words_fit}
use Rattle.component_models.proofs.gates.infer_xor.Goals as goal

exact : goal.returns-clause-exact
exact c = rw c.forced_by_xor.ensures (xor_is_exact c.args.width c.bits-bits.ensures.low c.args.a c.args.b c.args.z c.requires.a_fits c.requires.b_fits c.requires.z_fits c.requires.open_port)

pub returns-clause-exact : goal.returns-clause-exact
returns-clause-exact c = exact c

pub returns-clause-fit : goal.returns-clause-fit
returns-clause-fit c = forced_words_fit _ _ _ _ _ (exact c)
