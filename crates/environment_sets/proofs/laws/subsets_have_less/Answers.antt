use Rattle.environment_sets.proofs.Signed.{subsets_have_less}
use Rattle.environment_sets.proofs.laws.subsets_have_less.Goals as goal

pub returns : goal.returns
returns c = subsets_have_less
