use Rattle.std.proofs.Common.{take}
use Rattle.environment_sets.specs.Members.{members, sets}
use Rattle.standing_view.specs.Conflicts.{AreLeastOf, meets}
use Rattle.standing_view.proofs.listing.least_parts.Given as goal

abbrev pub invariant-loop-environment : goal.invariant-loop-environment
invariant-loop-environment l = AreLeastOf (meets (members l.parts) (sets (take l.environment-index l.environments))) l.least
