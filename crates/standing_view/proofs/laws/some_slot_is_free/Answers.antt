use Rattle.standing_view.proofs.Room as lemmas
use Rattle.standing_view.proofs.laws.some_slot_is_free.Goals as goal

pub returns : goal.returns
returns c = lemmas.some_slot_is_free
