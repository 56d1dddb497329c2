use Rattle.standing_view.proofs.Named as lemmas
use Rattle.standing_view.proofs.laws.free_slots_do_not_stand.Goals as goal

pub returns : goal.returns
returns c = lemmas.free_slots_do_not_stand
