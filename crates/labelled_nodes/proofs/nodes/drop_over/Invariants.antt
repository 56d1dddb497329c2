use Rattle.environment_sets.specs.Sets.{◌⊆◌}
use Rattle.environment_sets.specs.Members.{members}
use Rattle.labelled_nodes.specs.Nodes.{AreDropped}
use Rattle.labelled_nodes.proofs.nodes.drop_over.Given as goal

abbrev pub invariant-loop-place : goal.invariant-loop-place
invariant-loop-place l = AreDropped (λ F. members l.nogood ⊆ F) l.initial.nodes l.nodes l.place
