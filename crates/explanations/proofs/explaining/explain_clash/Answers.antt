use Rattle.std.proofs.Common.{List, map, sym, subst, ◌∙◌}
use Rattle.environment_sets.specs.Lists.{IsIn}
use Rattle.circuit_model.specs.declared.model.Fact.{Fact}
use Rattle.circuit_model.specs.Chosen.{chosen_places}
use Rattle.circuit_model.specs.Derivation.{AreStepsTo}
use Rattle.circuit_model.specs.Present.{circuit_of}
use Rattle.proof_check.specs.Written.{step_of, ending_of}
use Rattle.explanations.proofs.Explained.{ends_with, clash_listed}
use Rattle.explanations.proofs.Named.{clash_of_present}
use Rattle.explanations.proofs.explaining.explain_clash.Goals as goal

pub steps_behind-requires-clause-listed : goal.steps_behind-requires-clause-listed
steps_behind-requires-clause-listed c f h =
    let Q : List Fact → Type 0 = λ fs. IsIn fs f in
    clash_listed c.args.present.now (chosen_places c.args.chosen.now) c.in_ok-closed.closed c.in_ok-closed.ensures c.in-Some.ending (sym c.clash.ensures ∙ c.in-Some.is) f (subst Q c.facts_in_clash-facts.ensures h)

pub returns-clause-canonical : goal.returns-clause-canonical
returns-clause-canonical c =
    let ends = ends_with c.args.present.now (chosen_places c.args.chosen.now) c.in_ok-closed.closed c.in_ok-closed.ensures c.in-Some.ending (sym c.clash.ensures ∙ c.in-Some.is) in
    let Q : List Fact → Type 0 = λ fs. AreStepsTo (circuit_of c.args.present.now) (chosen_places c.args.chosen.now) fs (map step_of c.in_ok-steps-in-Some.steps) in
    record {
      round = c.in_ok-closed.ensures.last;
      is_round = ends.0;
      ending = ends.1;
      steps = subst Q c.facts_in_clash-facts.ensures c.in_ok-steps-in-Some.ensures.all;
    }

pub returns-clause-named : goal.returns-clause-named
returns-clause-named c =
    let ends = ends_with c.args.present.now (chosen_places c.args.chosen.now) c.in_ok-closed.closed c.in_ok-closed.ensures c.in-Some.ending (sym c.clash.ensures ∙ c.in-Some.is) in
    let Q : List Fact → Type 0 = λ fs. AreStepsTo (circuit_of c.args.present.now) (chosen_places c.args.chosen.now) fs (map step_of c.in_ok-steps-in-Some.steps) in
    record {
      steps = c.in_ok-steps-in-Some.ensures.named;
      ending = clash_of_present c.args.present.now (chosen_places c.args.chosen.now) c.in_ok-closed.ensures.last (ending_of c.in-Some.ending) ends.1 (map step_of c.in_ok-steps-in-Some.steps) (subst Q c.facts_in_clash-facts.ensures c.in_ok-steps-in-Some.ensures.all) c.in_ok-steps-in-Some.ensures.named;
    }
