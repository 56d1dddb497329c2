use Rattle.std.proofs.Common.{◌≡◌, List, map, reverse, sym, ap, subst, ◌∙◌}
use Rattle.std.proofs.lemmas.Result.{IfOk-weaker}
use Rattle.circuit_model.specs.Chosen.{chosen_places}
use Rattle.environment_sets.specs.Lists.{IsIn}
use Rattle.circuit_model.specs.Derivation as derivations
use Rattle.circuit_model.specs.Derivation.{AreStepsTo}
use Rattle.circuit_model.specs.Present.{circuit_of}
use Rattle.proof_check.specs.declared.derivation.Step.{Step}
use Rattle.proof_check.specs.Written.{given, step_of}
use Rattle.explanations.specs.Naming.{IsStepOf}
use Rattle.explanations.proofs.Named.{support_of_present}
use Rattle.explanations.proofs.walk.steps_behind.Goals as goal

pub returns-clause-all : goal.returns-clause-all
returns-clause-all c =
    let Q : List Step → Type 0 = λ steps. AreStepsTo (circuit_of c.args.present.now) (chosen_places c.args.chosen.now) (given c.args.goals.now) (map step_of steps) in
    IfOk-weaker c.reversed.result (λ (turned : List Step). turned ≡ reverse c.deref.result.now) Q (λ turned e. subst Q (sym (e ∙ ap (λ (steps : List Step). reverse steps) c.deref.ensures.value)) c.in_ok-steps.ensures) c.reversed.ensures

pub returns-clause-named : goal.returns-clause-named
returns-clause-named c =
    let Q : List Step → Type 0 = λ steps. AreStepsTo (circuit_of c.args.present.now) (chosen_places c.args.chosen.now) (given c.args.goals.now) (map step_of steps) in
    IfOk-weaker c.reversed.result (λ (turned : List Step). turned ≡ reverse c.deref.result.now) (λ (steps : List Step). (st : derivations.Step) → IsIn (map step_of steps) st → IsStepOf c.args.present.now st) (λ turned e st h.
    let all : AreStepsTo (circuit_of c.args.present.now) (chosen_places c.args.chosen.now) (given c.args.goals.now) (map step_of turned) = subst Q (sym (e ∙ ap (λ (steps : List Step). reverse steps) c.deref.ensures.value)) c.in_ok-steps.ensures in
    support_of_present c.args.present.now (chosen_places c.args.chosen.now) c.cycles-cycles.ensures.lawful st (all.supports st h)) c.reversed.ensures
