use Rattle.circuit_model.proofs.Renaming.{renamed_clashes}
use Rattle.circuit_model.proofs.laws.clashes_are_the_same_under_other_names.Goals as goal

pub returns : goal.returns
returns g c = renamed_clashes _ _
