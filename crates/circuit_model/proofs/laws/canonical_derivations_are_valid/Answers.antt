use Rattle.circuit_model.proofs.Derivations as lemmas
use Rattle.circuit_model.proofs.laws.canonical_derivations_are_valid.Goals as goal

pub returns : goal.returns
returns c = lemmas.canonical_derivations_are_valid
