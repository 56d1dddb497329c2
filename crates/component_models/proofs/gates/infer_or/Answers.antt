use Rattle.component_models.proofs.Turned.{or_is_exact}
use Rattle.component_models.proofs.Fitting.{fit_first, fit_second, fit_third, places}
use Rattle.component_models.proofs.gates.infer_or.Goals as goal

pub complement-requires-4 : goal.complement-requires-4
complement-requires-4 c = fit_first c.args.width c.infer_and-of_complements.result.forced c.infer_and-of_complements.ensures.fit

pub complement-requires-5 : goal.complement-requires-5
complement-requires-5 c = fit_second c.args.width c.infer_and-of_complements.result.forced c.infer_and-of_complements.ensures.fit

pub complement-requires-6 : goal.complement-requires-6
complement-requires-6 c = fit_third c.args.width c.infer_and-of_complements.result.forced c.infer_and-of_complements.ensures.fit

pub returns : goal.returns
returns c =
    let forced = places c.infer_and-of_complements.result.forced c.infer_and-of_complements.result.places in
    rw (c.complement-4.ensures, c.complement-5.ensures, c.complement-6.ensures) (or_is_exact c.args.width c.args.a c.args.b c.args.z c.requires.a_fits c.requires.b_fits c.requires.z_fits c.infer_and-of_complements.result.refuted _ _ _
    (rw (← forced, ← c.complement.ensures, ← c.complement-2.ensures, ← c.complement-3.ensures) c.infer_and-of_complements.ensures.exact))
