use Rattle.circuit_model.proofs.Splitting as lemmas
use Rattle.circuit_model.proofs.laws.diagnoses_have_one_listing.Goals as goal

pub returns : goal.returns
returns c = lemmas.diagnoses_have_one_listing
