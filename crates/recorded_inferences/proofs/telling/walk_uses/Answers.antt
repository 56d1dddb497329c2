use Rattle.std.proofs.Common.{◌≡◌, ap, ◌∙◌, [], ◌∷◌, ◌++◌}
use Rattle.inference_search.specs.declared.inferred.Inferred.{Inferred}
use Rattle.justifications.specs.Woven.{name_of}
use Rattle.recorded_inferences.specs.Recorded.{told}
use Rattle.recorded_inferences.proofs.Walking.{walked_next, walked_shorter, walked_all}
use Rattle.recorded_inferences.proofs.telling.walk_uses.Goals as goal

pub told-requires : goal.told-requires
told-requires c = c.laws.ensures.fit c.in-Some.just.place c.get-inferred.result c.get-inferred.ensures

pub loop-next-smaller : goal.loop-next-smaller
loop-next-smaller c =
    walked_shorter c.args.weave.now c.laws.ensures c.args.node.place c.loop-next.found.items (name_of c.loop-next.next) c.loop-next.invariant c.in-Some.just.place (ap name_of c.in-Some.is) (name_of c.next_use-next.result) c.next_use-next.ensures

pub loop-next-preserved : goal.loop-next-preserved
loop-next-preserved c =
    let pushed : c.push.new.self.items ≡ c.loop-next.found.items ++ told c.args.weave.now c.get-inferred.result ∷ [] = c.in_ok-push.ensures.items ∙ ap (λ (i : Inferred). c.loop-next.found.items ++ i ∷ []) c.told.ensures in
    walked_next c.args.weave.now c.laws.ensures c.args.node.place c.loop-next.found.items (name_of c.loop-next.next) c.loop-next.invariant c.in-Some.just.place (ap name_of c.in-Some.is) (name_of c.next_use-next.result) c.next_use-next.ensures c.get-inferred.result
    c.get-inferred.ensures c.push.new.self.items pushed

pub returns : goal.returns
returns c = walked_all c.args.weave.now c.laws.ensures c.args.node.place c.loop-next.found.items (name_of c.loop-next.next) c.loop-next.invariant (ap name_of c.in_default.is)
