use Rattle.circuit_model.proofs.Decided as lemmas
use Rattle.circuit_model.proofs.laws.last_rounds_are_closures.Goals as goal

pub returns : goal.returns
returns g c = lemmas.last_rounds_are_closures _
