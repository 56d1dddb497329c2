use Rattle.component_models.proofs.Turned.{nor_is_exact}
use Rattle.component_models.proofs.Fitting.{fit_first, fit_second, places}
use Rattle.component_models.proofs.gates.infer_nor.Goals as goal

pub complement-requires-3 : goal.complement-requires-3
complement-requires-3 c = fit_first c.args.width c.infer_and-of_complements.result.forced c.infer_and-of_complements.ensures.fit

pub complement-requires-4 : goal.complement-requires-4
complement-requires-4 c = fit_second c.args.width c.infer_and-of_complements.result.forced c.infer_and-of_complements.ensures.fit

pub returns : goal.returns
returns c =
    let forced = places c.infer_and-of_complements.result.forced c.infer_and-of_complements.result.places in
    rw (c.complement-3.ensures, c.complement-4.ensures) (nor_is_exact c.args.width c.args.a c.args.b c.args.z c.requires.a_fits c.requires.b_fits c.requires.z_fits c.infer_and-of_complements.result.refuted _ _ _
    (rw (← forced, ← c.complement.ensures, ← c.complement-2.ensures) c.infer_and-of_complements.ensures.exact))
