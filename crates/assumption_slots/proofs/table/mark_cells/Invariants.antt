use Rattle.std.proofs.Common.{◌≡◌, ℕ, ◌<◌, Some, slice_get}
use Rattle.circuit_model.specs.declared.model.Cell.{Cell}
use Rattle.assumption_slots.specs.Table.{place_of_cell, IsMarked}
use Rattle.assumption_slots.proofs.table.mark_cells.Given as goal

abbrev pub invariant-loop-port : goal.invariant-loop-port
invariant-loop-port l =
    IsMarked l.slot l.is_in (λ place. (i : ℕ) × (i < l.port) × ((cell : Cell) × (slice_get l.cells i ≡ Some cell) × (place_of_cell cell ≡ place))) l.fn.rows l.rows
