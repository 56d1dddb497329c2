use Rattle.standing_view.proofs.Named as lemmas
use Rattle.standing_view.proofs.laws.slots_name_the_present.Goals as goal

pub returns : goal.returns
returns c = lemmas.slots_name_the_present
