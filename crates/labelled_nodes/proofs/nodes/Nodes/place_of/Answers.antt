use Rattle.std.proofs.Common.{ap}
use Rattle.labelled_nodes.specs.Nodes.{Labelled}
use Rattle.labelled_nodes.proofs.Labelled.{found_place}
use Rattle.labelled_nodes.proofs.nodes.Nodes.place_of.Goals as goal

pub returns : goal.returns
returns c = found_place c.self.inside.list.items c.args.self.now.list c.self.inside.index.facts c.self.invariant.1 (ap (λ (l : Labelled). l.list) c.self.view_is) c.args.fact.now c.find.result c.find.ensures c.self.invariant.0
