use Rattle.environment_sets.specs.Members.{members}
use Rattle.standing_view.proofs.Picked.{chosen_are}
use Rattle.standing_view.proofs.choosing.chosen.Goals as goal

pub returns : goal.returns
returns c = chosen_are c.args.standing.now (members c.args.env.now) c.in_ok-parts.parts c.in_ok-readings.readings c.in_ok-parts.ensures c.in_ok-readings.ensures
