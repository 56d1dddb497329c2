use Rattle.circuit_model.proofs.SmallerStock.{labels_of_a_part}
use Rattle.circuit_model.proofs.laws.labels_of_fewer_assumptions.Goals as goal

pub returns : goal.returns
returns g c = labels_of_a_part _
