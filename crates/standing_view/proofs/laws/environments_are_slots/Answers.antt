use Rattle.standing_view.proofs.Named as lemmas
use Rattle.standing_view.proofs.laws.environments_are_slots.Goals as goal

pub returns : goal.returns
returns c = lemmas.environments_are_slots
