use Rattle.circuit_model.proofs.Decided as lemmas
use Rattle.circuit_model.proofs.laws.last_rounds_decide_clashes.Goals as goal

pub returns : goal.returns
returns g c = lemmas.last_rounds_decide_clashes _
