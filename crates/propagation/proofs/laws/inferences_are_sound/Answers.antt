use Rattle.propagation.proofs.laws.inferences_are_sound.Goals as goal
use Rattle.propagation.proofs.Unions.{leads_on}

pub returns : goal.returns
returns c = leads_on
