use Rattle.circuit_model.proofs.Diagnoses as lemmas
use Rattle.circuit_model.proofs.laws.no_conflict_is_empty.Goals as goal

pub returns : goal.returns
returns c = λ P C conflict empty. lemmas.readings_are_consistent P C empty conflict.minimal.holds
