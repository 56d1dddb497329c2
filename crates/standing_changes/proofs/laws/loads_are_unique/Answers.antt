use Rattle.standing_changes.proofs.Loads as lemmas
use Rattle.standing_changes.proofs.laws.loads_are_unique.Goals as goal

pub returns : goal.returns
returns c = lemmas.loads_are_unique
