use Rattle.circuit_model.proofs.Splitting as lemmas
use Rattle.circuit_model.proofs.laws.two_predictions_split.Goals as goal

pub returns : goal.returns
returns c = lemmas.two_predictions_split
