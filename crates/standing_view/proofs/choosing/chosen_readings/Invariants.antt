use Rattle.std.proofs.Common.{◌≡◌, take}
use Rattle.std.specs.List.{filter}
use Rattle.environment_sets.specs.Members.{members}
use Rattle.standing_view.specs.Choosing.{has_cell}
use Rattle.standing_view.proofs.choosing.chosen_readings.Given as goal

abbrev pub invariant-loop-place : goal.invariant-loop-place
invariant-loop-place l = l.list ≡ filter (has_cell l.standing (members l.env)) (take l.place l.standing.cells)
