use Rattle.std.proofs.Common.{◌≡◌, ◌+◌, drop}
use Rattle.environment_sets.specs.Costs.{cost_in}
use Rattle.environment_sets.specs.Members.{members}
use Rattle.probe_planner.specs.Covering.{covers}
use Rattle.probe_planner.proofs.scores.covered_weight.Given as goal

abbrev pub invariant-loop-i : goal.invariant-loop-i
invariant-loop-i l =
    l.weight + cost_in (drop l.i l.rests) (drop l.i l.weights) (λ r. covers l.label (members r)) ≡ cost_in l.rests l.weights (λ r. covers l.label (members r))
