use Rattle.std.proofs.Common.{decimal}
use Rattle.bench_io.proofs.PutParts.{Puts-then, Puts-as}
use Rattle.netlist_text.specs.Show.{cell_text}
use Rattle.netlist_text.proofs.ShownParts.{reading-line}
use Rattle.netlist_text.proofs.show.put_reading.Goals as goal

pub returns : goal.returns
returns g c =
    Puts-as (reading-line (cell_text c.args.present.now c.args.fact.cell) (decimal c.args.fact.value)) (Puts-then (Puts-then (Puts-then (Puts-then c.put-failed.ensures c.put_cell-failed.ensures) c.put-failed-2.ensures) c.put_number-failed.ensures) c.put.ensures)
