use Rattle.circuit_model.proofs.Derivations as lemmas
use Rattle.circuit_model.proofs.laws.valid_derivations_are_true.Goals as goal

pub returns : goal.returns
returns c = lemmas.valid_derivations_are_true
