use Rattle.environment_sets.proofs.Walking.{walks_list_all}
use Rattle.environment_sets.proofs.laws.walks_list_all.Goals as goal

pub returns : goal.returns
returns g c = walks_list_all _
