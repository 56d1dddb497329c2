use Rattle.std.proofs.Common.{◌≡◌, ℕ, List, map, sym, ap, subst, ◌∙◌}
use Rattle.std.proofs.lemmas.Result.{IfOk-weaker}
use Rattle.circuit_model.specs.Present.{circuit_of}
use Rattle.circuit_model.specs.Probe.{AreConflicts}
use Rattle.environment_sets.specs.declared.environment.Env.{Env}
use Rattle.environment_sets.specs.Members.{sets}
use Rattle.environment_sets.specs.Sets.{Set}
use Rattle.standing_view.specs.Positions.{positions}
use Rattle.standing_diagnoses.proofs.listing.conflicts_of.Goals as goal

pub returns : goal.returns
returns c =
    IfOk-weaker c.positions_of_each.result _ _ (λ found same P parked r.
    let A : List (Set ℕ) → Type 0 = AreConflicts (circuit_of P) in
    let slots : sets found.items ≡ map (positions c.args.standing.now) (sets c.in_ok-found.found.items) = same ∙ ap (λ (es : List Env). map (positions c.args.standing.now) (sets es)) c.deref.ensures.value in
    subst A (sym slots) (c.in_ok-found.ensures.conflicts P parked r)) c.positions_of_each.ensures
