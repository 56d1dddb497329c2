use Rattle.hitting_sets.proofs.Minimality.{minimal_by_own}
use Rattle.hitting_sets.proofs.laws.minimal_by_own.Goals as goal

pub returns : goal.returns
returns c = minimal_by_own
