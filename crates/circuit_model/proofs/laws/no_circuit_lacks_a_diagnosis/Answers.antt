use Rattle.circuit_model.proofs.Listed as lemmas
use Rattle.circuit_model.proofs.laws.no_circuit_lacks_a_diagnosis.Goals as goal

pub returns : goal.returns
returns c = lemmas.no_circuit_lacks_a_diagnosis
