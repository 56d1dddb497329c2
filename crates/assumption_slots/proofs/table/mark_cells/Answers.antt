use Rattle.std.proofs.Common.{◌≡◌, arith}
use Rattle.circuit_model.specs.declared.model.Cell.{Cell}
use Rattle.assumption_slots.specs.Table.{place_of_cell}
use Rattle.assumption_slots.proofs.Tables.{marked_all}
use Rattle.assumption_slots.proofs.table.mark_cells.Goals as goal

pub returns : goal.returns
returns c = marked_all c.args.slot c.args.is_in c.args.cells (λ (cell : Cell) place. place_of_cell cell ≡ place) c.loop-port.port _ _ (omega arith) c.loop-port.invariant
