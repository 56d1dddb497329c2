use Rattle.environment_sets.proofs.Slots.{slots_are_below}
use Rattle.environment_sets.proofs.laws.slots_are_below_the_bound.Goals as goal

pub returns : goal.returns
returns c = slots_are_below
