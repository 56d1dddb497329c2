use Rattle.std.proofs.Common.{◌≡◌, Some}
use Rattle.std.proofs.lemmas.Result.{IfOk-weaker}
use Rattle.circuit_model.specs.declared.model.Fact.{Fact}
use Rattle.justifications.specs.Woven.{fact_at}
use Rattle.recorded_inferences.specs.Recorded.{AreUses, recorded_in}
use Rattle.recorded_inferences.proofs.Walking.{no_uses}
use Rattle.recorded_inferences.proofs.telling.uses_in.Goals as goal

pub returns-in_default : goal.returns-in_default
returns-in_default c = no_uses c.args.weave.now c.args.fact.now c.in_default.ensures c.clear.new.self.items c.clear.ensures.items

pub returns : goal.returns
returns c =
    let w = c.args.weave.now in
    let n = c.in-Some.node.place in
    let found = c.walk_uses.new.found.items in
    IfOk-weaker c.walk_uses.result (λ _. (fact : Fact) → fact_at w n ≡ Some fact → AreUses (recorded_in w) fact found) (λ _. AreUses (recorded_in w) c.args.fact.now found) (λ _ all. all c.args.fact.now c.in-Some.ensures) c.walk_uses.ensures
