use Rattle.standing_view.proofs.Shrinking as lemmas
use Rattle.standing_view.proofs.laws.the_last_component_is_forgotten.Goals as goal

pub returns : goal.returns
returns c = lemmas.the_last_component_is_forgotten
