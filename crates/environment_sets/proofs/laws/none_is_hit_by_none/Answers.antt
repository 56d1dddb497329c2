use Rattle.environment_sets.proofs.Hitting.{none_is_hit_by_none}
use Rattle.environment_sets.proofs.laws.none_is_hit_by_none.Goals as goal

pub returns : goal.returns
returns c = none_is_hit_by_none
