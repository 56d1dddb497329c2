use Rattle.std.proofs.Common.{◌≡◌, take}
use Rattle.labelled_nodes.specs.Nodes.{facts_of}
use Rattle.labelled_nodes.proofs.nodes.list_again.Given as goal

abbrev pub invariant-loop-node : goal.invariant-loop-node
invariant-loop-node l = (l.index.facts ≡ facts_of (take l.node-index l.nodes)) × (l.index.room ≡ l.initial.index.room)
