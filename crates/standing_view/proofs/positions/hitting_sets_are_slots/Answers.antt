use Rattle.standing_view.proofs.PartSets as lemmas
use Rattle.standing_view.proofs.positions.hitting_sets_are_slots.Goals as goal

pub returns : goal.returns
returns c = lemmas.hitting_sets_are_slots
