use Rattle.standing_view.proofs.Parked as lemmas
use Rattle.standing_view.proofs.laws.a_reading_is_parked.Goals as goal

pub returns : goal.returns
returns c = lemmas.a_reading_is_parked
