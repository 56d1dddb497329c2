use Rattle.standing_view.proofs.Growing as lemmas
use Rattle.standing_view.proofs.laws.a_component_more_stands.Goals as goal

pub returns : goal.returns
returns c = lemmas.one_component_more
