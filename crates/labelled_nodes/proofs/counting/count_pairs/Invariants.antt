use Rattle.std.proofs.Common.{◌≡◌, ◌-◌, ◌^◌, ℕ, min, take}
use Rattle.environment_sets.specs.Members.{members}
use Rattle.labelled_nodes.specs.Counted.{ArePairs}
use Rattle.labelled_nodes.proofs.counting.count_pairs.Given as goal

abbrev pub invariant-loop-node : goal.invariant-loop-node
invariant-loop-node l = (n : ℕ) × ArePairs (take l.node-index l.nodes) (members l.mask) n × (l.count ≡ min n (2 ^ 64 - 1))
