use Rattle.standing_view.proofs.Named as lemmas
use Rattle.standing_view.proofs.laws.slots_are_environments.Goals as goal

pub returns : goal.returns
returns c = lemmas.slots_are_environments
