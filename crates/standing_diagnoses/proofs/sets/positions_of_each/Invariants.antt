use Rattle.std.proofs.Common.{◌≡◌, map, take}
use Rattle.environment_sets.specs.Members.{sets}
use Rattle.standing_view.specs.Positions.{positions}
use Rattle.standing_diagnoses.proofs.sets.positions_of_each.Given as goal

abbrev pub invariant-loop-environment : goal.invariant-loop-environment
invariant-loop-environment l = sets l.found.items ≡ map (positions l.standing) (sets (take l.environment-index l.environments))
