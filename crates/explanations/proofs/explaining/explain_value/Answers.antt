use Rattle.std.proofs.Common.{inl, inr, subst}
use Rattle.circuit_model.specs.declared.model.Fact.{Fact}
use Rattle.circuit_model.specs.Chosen.{chosen_places}
use Rattle.explanations.proofs.Explained.{IsListedFact, follows_listed}
use Rattle.explanations.proofs.explaining.explain_value.Goals as goal

pub steps_behind-requires-clause-listed : goal.steps_behind-requires-clause-listed
steps_behind-requires-clause-listed c f (inl e) =
    subst (λ (f : Fact). IsListedFact c.args.present.now (chosen_places c.args.chosen.now) c.in_ok-closed.closed c.in_ok-closed.ensures f) e
    (follows_listed c.args.present.now (chosen_places c.args.chosen.now) c.in_ok-closed.closed c.in_ok-closed.ensures c.requires.consistent c.args.fact c.requires.follows)
steps_behind-requires-clause-listed c f (inr bad) = absurd bad
