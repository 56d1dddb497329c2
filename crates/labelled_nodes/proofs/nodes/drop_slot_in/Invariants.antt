use Rattle.std.proofs.Common.{IsTrue}
use Rattle.labelled_nodes.specs.Nodes.{AreDropped}
use Rattle.labelled_nodes.proofs.nodes.drop_slot_in.Given as goal

abbrev pub invariant-loop-place : goal.invariant-loop-place
invariant-loop-place l = AreDropped (λ F. IsTrue (F l.slot)) l.initial.nodes l.nodes l.place
