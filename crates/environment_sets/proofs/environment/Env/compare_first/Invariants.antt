use Rattle.std.proofs.Common.{◌≡◌, drop}
use Rattle.environment_sets.specs.Orders.{by_first}
use Rattle.environment_sets.specs.Members.{members}
use Rattle.environment_sets.proofs.environment.Env.compare_first.Given as goal

abbrev pub invariant-loop-slot : goal.invariant-loop-slot
invariant-loop-slot l = by_first l.order (members l.self) (members l.other) ≡ by_first (drop l.slot-index l.order) (members l.self) (members l.other)
