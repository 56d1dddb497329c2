use Rattle.circuit_model.proofs.Decided as lemmas
use Rattle.circuit_model.proofs.laws.settled_lists_are_exact.Goals as goal

pub returns : goal.returns
returns g c = lemmas.settled_lists_are_exact _
