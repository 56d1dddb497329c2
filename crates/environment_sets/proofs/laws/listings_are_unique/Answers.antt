use Rattle.environment_sets.proofs.OrderLaws.{listings_are_unique}
use Rattle.environment_sets.proofs.laws.listings_are_unique.Goals as goal

pub returns : goal.returns
returns g c = listings_are_unique _
