use Rattle.standing_view.proofs.PartSets as lemmas
use Rattle.standing_view.proofs.positions.positions_are_in_range.Goals as goal

pub returns : goal.returns
returns c = lemmas.positions_are_in_range
