use Rattle.standing_view.proofs.PartSets as lemmas
use Rattle.standing_view.proofs.positions.positions_have_slots.Goals as goal

pub returns : goal.returns
returns c = lemmas.positions_have_slots
