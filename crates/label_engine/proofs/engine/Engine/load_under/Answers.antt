use Rattle.std.proofs.Common.{◌+◌, ap, ◌∙◌}
use Rattle.environment_sets.specs.Members.{members}
use Rattle.labelled_nodes.proofs.Counts.{shown_more}
use Rattle.label_engine.specs.Engine.{Seen}
use Rattle.label_engine.proofs.Asked.{IsExact, is_exact, label_is, load_of}
use Rattle.label_engine.proofs.engine.Engine.load_under.Goals as goal

pub returns : goal.returns
returns c =
    let exact : IsExact c.args.self.now = is_exact c.self.inside.slots c.self.inside.update.nodes c.self.inside.update.recorded c.self.invariant.up_to_date c.args.self.now c.self.view_is in
    let pairs = c.count_inside-pairs.ensures in
    record {
      load = pairs.0 + c.count_inside.result;
      is = load_of c.args.self.now exact (members c.args.mask.now) c.self.inside.update.nodes.list (label_is c.self.inside.slots c.self.inside.update.nodes c.self.inside.update.recorded c.self.invariant.up_to_date c.args.self.now c.self.view_is) c.nogoods.result.now (c.nogoods.ensures ∙ ap (λ (e : Seen). e.nogoods) c.self.view_is) pairs.0 c.count_inside.result pairs.1 c.count_inside.ensures;
      bounded = c.saturating_add.ensures ∙ shown_more pairs.0 c.count_inside.result c.count_inside-pairs.result pairs.2;
    }
