use Rattle.std.proofs.Common.{sym, ap, ◌∙◌, arith, take_all}
use Rattle.std.specs.List.{join_with_byte}
use Rattle.circuit_model.specs.Chosen.{chosen_places}
use Rattle.netlist_text.specs.Show.{cell_text}
use Rattle.answer_text.specs.Texts.{cells_in}
use Rattle.answer_text.proofs.Joining.{PutsPieces-push, PutsPieces-as, PutsPieces-none, cells-chosen, cells-left}
use Rattle.bench_io.proofs.PutParts.{Puts-as}
use Rattle.answer_text.proofs.chosen.put_chosen_cells.Goals as goal
use Rattle.answer_text.proofs.chosen.put_chosen_cells.Goals.{then-has_cell, else-has_cell}

pub loop-place-init : goal.loop-place-init
loop-place-init g c = PutsPieces-none _ _

pub loop-place-preserved : goal.loop-place-preserved
loop-place-preserved g c = elim c.if-has_cell.branch [
  | then-has_cell w ↦ rw (w.failed-is, w.sink-is, w.is_first-is)
      (PutsPieces-as (cells-chosen c.args.present.now (chosen_places c.args.chosen.now) c.args.present.now.readings c.loop-place.place c.reading.result c.reading.ensures (sym c.has_cell.ensures ∙ w.if-has_cell.true))
      (PutsPieces-push (cell_text c.args.present.now c.reading.result.cell) c.loop-place.invariant w.put_next_cell-failed.ensures))
  | else-has_cell w ↦ rw (w.failed-is, w.sink-is, w.is_first-is)
      (PutsPieces-as (cells-left c.args.present.now (chosen_places c.args.chosen.now) c.args.present.now.readings c.loop-place.place c.reading.result c.reading.ensures (sym c.has_cell.ensures ∙ w.if-has_cell.false)) c.loop-place.invariant)
]

pub returns : goal.returns
returns g c =
    Puts-as (ap (λ readings. join_with_byte 44 (cells_in c.args.present.now (chosen_places c.args.chosen.now) readings)) (take_all c.loop-place.place c.args.present.now.readings (omega (arith, c.readings-place-end.ensures.value))))
    c.loop-place.invariant.puts
