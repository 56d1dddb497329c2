use Rattle.circuit_model.proofs.Monotony.{subsets_are_consistent}
use Rattle.circuit_model.proofs.laws.part_of_a_consistent_environment.Goals as goal

pub returns : goal.returns
returns g c = subsets_are_consistent _
