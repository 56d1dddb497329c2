use Rattle.std.proofs.Common.{ap, ◌∙◌}
use Rattle.std.specs.Option.{option_map, option_copied}
use Rattle.environment_sets.specs.Members.{members}
use Rattle.label_engine.specs.Engine.{Seen}
use Rattle.label_engine.proofs.Asked.{IsExact, is_exact, next_nogood}
use Rattle.label_engine.proofs.engine.Engine.nogood_after.Goals as goal

pub returns-clause-next : goal.returns-clause-next
returns-clause-next c =
    let exact : IsExact c.args.self.now = is_exact c.self.inside.slots c.self.inside.update.nodes c.self.inside.update.recorded c.self.invariant.up_to_date c.args.self.now c.self.view_is in
    next_nogood c.args.self.now exact (members c.args.mask.now) c.nogoods.result.now (c.nogoods.ensures ∙ ap (λ (e : Seen). e.nogoods) c.self.view_is) c.args.order.now
    (option_map members (option_copied c.args.last)) (option_map members c.next_after.result) c.next_after.ensures.next
