use Rattle.circuit_model.proofs.SmallerStock.{nogoods_of_a_part}
use Rattle.circuit_model.proofs.laws.nogoods_of_fewer_assumptions.Goals as goal

pub returns : goal.returns
returns g c = nogoods_of_a_part _
