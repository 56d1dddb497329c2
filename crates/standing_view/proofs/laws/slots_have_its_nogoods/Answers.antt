use Rattle.standing_view.proofs.Named as lemmas
use Rattle.standing_view.proofs.laws.slots_have_its_nogoods.Goals as goal

pub returns : goal.returns
returns c = lemmas.slots_have_its_nogoods
