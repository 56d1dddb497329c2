use Rattle.environment_sets.proofs.OrderLaws.{equal_sets_are_same}
use Rattle.environment_sets.proofs.laws.equal_sets_are_same.Goals as goal

pub returns : goal.returns
returns g c = equal_sets_are_same _
