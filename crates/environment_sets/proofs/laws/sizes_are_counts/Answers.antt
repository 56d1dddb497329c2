use Rattle.environment_sets.proofs.Sizes.{sizes_are_counts}
use Rattle.environment_sets.proofs.laws.sizes_are_counts.Goals as goal

pub returns : goal.returns
returns c = sizes_are_counts
