use Rattle.std.proofs.Common.{◌≡◌}
use Rattle.std.specs.List.{filter, range_with_len}
use Rattle.environment_sets.specs.Members.{members}
use Rattle.standing_view.specs.Positions.{positions}
use Rattle.standing_view.proofs.choosing.chosen_parts.Given as goal

abbrev pub invariant-loop-place : goal.invariant-loop-place
invariant-loop-place l = l.list ≡ filter (positions l.standing (members l.env)) (range_with_len 0 l.place)
