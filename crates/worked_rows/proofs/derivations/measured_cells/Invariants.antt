use Rattle.std.proofs.Common.{ℕ, ◌<◌}
use Rattle.environment_sets.specs.Lists.{IsIn}
use Rattle.circuit_model.specs.declared.model.Cell.{Cell}
use Rattle.worked_rows.proofs.derivations.measured_cells.Given as goal

abbrev pub invariant-loop-net : goal.invariant-loop-net
invariant-loop-net l = (c : Cell) → IsIn l.cells c → c.net < l.net
