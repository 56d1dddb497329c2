use Rattle.std.proofs.Common.{ap, ◌∙◌}
use Rattle.labelled_nodes.specs.Nodes.{Labelled}
use Rattle.labelled_nodes.proofs.Labelled.{found_any}
use Rattle.labelled_nodes.proofs.nodes.Nodes.is_met.Goals as goal

pub returns : goal.returns
returns c = c.is_some.ensures ∙ found_any c.self.inside.list.items c.args.self.now.list c.self.inside.index.facts c.self.invariant.1 (ap (λ (l : Labelled). l.list) c.self.view_is) c.args.fact.now c.find.result c.find.ensures
