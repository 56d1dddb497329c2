use Rattle.std.proofs.Common.{◌++◌, ℕ, Option, List, ap, append_assoc, true, false, ◌∙◌}
use Rattle.circuit_model.specs.declared.model.Fact.{Fact}
use Rattle.environment_sets.specs.declared.environment.Env.{Env}
use Rattle.inference_search.specs.declared.inferred.Inferred.{Inferred}
use Rattle.label_engine.specs.declared.update.Pending.{Pending}
use Rattle.label_engine.specs.Update.{items_to}
use Rattle.label_engine.proofs.Pieces.{IfOk-map}
use Rattle.label_engine.proofs.update.bring_all.Goals as goal

pub returns : goal.returns
returns c =
    let passed : Option ℕ = c.args.passed in
    let f : Fact = c.args.arrival.now.fact in
    let e : Env = c.args.arrival.now.env in
    let uses : List Inferred = c.args.uses.now in
    let was : List Pending = c.args.work.now.items in
    IfOk-map c.bring_uses-2.result
    (λ x then. then ∙ (ap (λ l. l ++ items_to passed true f e uses) c.in_ok-bring_uses.ensures ∙ append_assoc was (items_to passed false f e uses) (items_to passed true f e uses)))
    c.bring_uses-2.ensures
