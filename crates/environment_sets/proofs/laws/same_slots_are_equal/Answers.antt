use Rattle.environment_sets.proofs.Slots.{same_slots_are_equal}
use Rattle.environment_sets.proofs.laws.same_slots_are_equal.Goals as goal

pub returns : goal.returns
returns c = same_slots_are_equal
