use Rattle.circuit_model.proofs.Splitting as lemmas
use Rattle.circuit_model.proofs.laws.conflicts_have_one_listing.Goals as goal

pub returns : goal.returns
returns c = lemmas.conflicts_have_one_listing
