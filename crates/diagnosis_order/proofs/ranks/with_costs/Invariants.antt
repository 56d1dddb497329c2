use Rattle.std.proofs.Common.{◌≡◌, map, take}
use Rattle.diagnosis_order.specs.Ranks.{ranked_of}
use Rattle.diagnosis_order.proofs.ranks.with_costs.Given as goal

abbrev pub invariant-loop-set : goal.invariant-loop-set
invariant-loop-set l = l.ranked.items ≡ map (ranked_of l.order l.costs) (take l.set-index l.environments)
