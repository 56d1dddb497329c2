use Rattle.std.proofs.Common.{◌≡◌, ◌+◌, drop}
use Rattle.environment_sets.specs.Members.{members}
use Rattle.environment_sets.specs.Costs.{cost_in}
use Rattle.first_diagnoses.specs.Weights.{weight_in}
use Rattle.first_diagnoses.proofs.problem.weight_of.Given as goal

abbrev pub invariant-loop-i : goal.invariant-loop-i
invariant-loop-i l =
    l.weight + cost_in (drop l.i l.problem.order.now) (drop l.i l.problem.weights.now) (members l.set) ≡ weight_in l.problem (members l.set)
