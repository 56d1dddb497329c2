use Rattle.std.proofs.Common.{◌≡◌, ℕ, ◌&&◌, not, take}
use Rattle.environment_sets.specs.Members.{members}
use Rattle.standing_view.specs.Standing.{is_among}
use Rattle.probe_planner.proofs.labels.rest_of.Given as goal

abbrev pub invariant-loop-slot : goal.invariant-loop-slot
invariant-loop-slot l = (k : ℕ) → members l.rest k ≡ (is_among (take l.slot-index l.slot-items) k && not (members l.diagnosis k))
