use Rattle.circuit_model.proofs.Rounds.{closures_are_closed}
use Rattle.circuit_model.proofs.laws.forced_facts_follow.Goals as goal

pub returns : goal.returns
returns g c = closures_are_closed _
