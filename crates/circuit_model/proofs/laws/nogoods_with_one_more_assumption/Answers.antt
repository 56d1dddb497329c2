use Rattle.circuit_model.proofs.SmallerStock.{one_more_for_nogoods}
use Rattle.circuit_model.proofs.laws.nogoods_with_one_more_assumption.Goals as goal

pub returns : goal.returns
returns g c = one_more_for_nogoods _
