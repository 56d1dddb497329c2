use Rattle.environment_sets.proofs.OrderLaws.{order_is_strict}
use Rattle.environment_sets.proofs.laws.order_is_strict.Goals as goal

pub returns : goal.returns
returns g c = order_is_strict _
