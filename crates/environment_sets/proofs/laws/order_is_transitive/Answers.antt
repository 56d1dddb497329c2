use Rattle.environment_sets.proofs.OrderLaws.{order_is_transitive}
use Rattle.environment_sets.proofs.laws.order_is_transitive.Goals as goal

pub returns : goal.returns
returns g c = order_is_transitive _
