use Rattle.circuit_model.proofs.SmallerStock.{one_more_for_labels}
use Rattle.circuit_model.proofs.laws.labels_with_one_more_assumption.Goals as goal

pub returns : goal.returns
returns g c = one_more_for_labels _
