use Rattle.circuit_model.proofs.Splitting as lemmas
use Rattle.circuit_model.proofs.laws.cells_have_one_score.Goals as goal

pub returns : goal.returns
returns c = lemmas.cells_have_one_score
