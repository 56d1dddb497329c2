use Rattle.std.proofs.Common.{ℕ, ◌<◌}
use Rattle.environment_sets.specs.Lists.{IsIn}
use Rattle.worked_rows.proofs.derivations.positions_below.Given as goal

abbrev pub invariant-loop-part : goal.invariant-loop-part
invariant-loop-part l = (i : ℕ) → IsIn l.places i → i < l.part
