use Rattle.std.proofs.Common.{◌≡◌, ◌+◌, drop}
use Rattle.environment_sets.specs.Members.{members}
use Rattle.environment_sets.specs.Costs.{cost_in}
use Rattle.diagnosis_order.proofs.ranks.cost_of.Given as goal

abbrev pub invariant-loop-i : goal.invariant-loop-i
invariant-loop-i l = l.cost + cost_in (drop l.i l.order) (drop l.i l.costs) (members l.set) ≡ cost_in l.order l.costs (members l.set)
