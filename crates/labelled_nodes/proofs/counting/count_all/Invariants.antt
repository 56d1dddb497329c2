use Rattle.std.proofs.Common.{take}
use Rattle.labelled_nodes.proofs.Wholes.{AreCounted}
use Rattle.labelled_nodes.proofs.counting.count_all.Given as goal

abbrev pub invariant-loop-node : goal.invariant-loop-node
invariant-loop-node l = AreCounted (take l.node-index l.nodes) l.count
