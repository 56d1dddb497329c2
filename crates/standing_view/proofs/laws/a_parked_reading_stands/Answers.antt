use Rattle.standing_view.proofs.Parked as lemmas
use Rattle.standing_view.proofs.laws.a_parked_reading_stands.Goals as goal

pub returns : goal.returns
returns c = lemmas.a_parked_reading_stands
