use Rattle.component_models.proofs.Turned.{xnor_is_exact}
use Rattle.component_models.proofs.Fitting.{fit_third, places}
use Rattle.component_models.proofs.gates.infer_xnor.Goals as goal

pub complement-requires-2 : goal.complement-requires-2
complement-requires-2 c = fit_third c.args.width c.infer_xor-of_complement.result.forced c.infer_xor-of_complement.ensures.fit

pub returns : goal.returns
returns c =
    let forced = places c.infer_xor-of_complement.result.forced c.infer_xor-of_complement.result.places in
    rw (c.complement-2.ensures) (xnor_is_exact c.args.width c.args.a c.args.b c.args.z c.requires.a_fits c.requires.b_fits c.requires.z_fits c.infer_xor-of_complement.result.refuted _ _ _
    (rw (← forced, ← c.complement.ensures) c.infer_xor-of_complement.ensures.exact))
