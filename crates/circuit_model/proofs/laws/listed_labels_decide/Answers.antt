use Rattle.circuit_model.proofs.Decided as lemmas
use Rattle.circuit_model.proofs.laws.listed_labels_decide.Goals as goal

pub returns : goal.returns
returns c = lemmas.listed_labels_decide
