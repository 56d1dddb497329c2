use Rattle.standing_view.proofs.PartSets as lemmas
use Rattle.standing_view.proofs.positions.positions_keep_the_order.Goals as goal

pub returns : goal.returns
returns c = lemmas.positions_keep_the_order
