use Rattle.circuit_model.proofs.Renaming.{renamed_closures}
use Rattle.circuit_model.proofs.laws.closures_are_the_same_under_other_names.Goals as goal

pub returns : goal.returns
returns g c = renamed_closures _ _
