use Rattle.environment_sets.proofs.CostOrder.{cost_order_is_total}
use Rattle.diagnosis_order.proofs.laws.cost_order_is_total.Goals as goal

pub returns : goal.returns
returns g c = cost_order_is_total
