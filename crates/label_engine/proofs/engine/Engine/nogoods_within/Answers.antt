use Rattle.std.proofs.Common.{ap, ◌∙◌}
use Rattle.std.proofs.lemmas.Result.{IfOk-weaker}
use Rattle.environment_sets.specs.Members.{members, sets}
use Rattle.label_engine.specs.Engine.{Seen}
use Rattle.label_engine.proofs.Asked.{IsExact, is_exact, all_nogoods}
use Rattle.label_engine.proofs.engine.Engine.nogoods_within.Goals as goal

pub returns : goal.returns
returns c =
    let exact : IsExact c.args.self.now = is_exact c.self.inside.slots c.self.inside.update.nodes c.self.inside.update.recorded c.self.invariant.up_to_date c.args.self.now c.self.view_is in
    IfOk-weaker c.inside.result _ _ (λ found roster. all_nogoods c.args.self.now exact (members c.args.mask.now) c.nogoods.result.now (c.nogoods.ensures ∙ ap (λ (e : Seen). e.nogoods) c.self.view_is) (sets found.items) roster) c.inside.ensures
