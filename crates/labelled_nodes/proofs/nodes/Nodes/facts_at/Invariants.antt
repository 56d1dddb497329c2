use Rattle.std.proofs.Common.{take}
use Rattle.labelled_nodes.specs.Nodes.{facts_of, AreFactsAt}
use Rattle.labelled_nodes.proofs.nodes.Nodes.facts_at.Given as goal

abbrev pub invariant-loop-cell : goal.invariant-loop-cell
invariant-loop-cell l = AreFactsAt (facts_of l.self.list) (take l.cell-index l.cells) l.found.items
