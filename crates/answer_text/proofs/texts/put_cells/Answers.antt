use Rattle.std.proofs.Common.{sym, ap, ◌∙◌, arith, take_all}
use Rattle.std.specs.List.{join_with_byte}
use Rattle.environment_sets.specs.Members.{members}
use Rattle.standing_view.specs.View.{places}
use Rattle.netlist_text.specs.Show.{cell_text}
use Rattle.answer_text.specs.Texts.{cells_in}
use Rattle.answer_text.proofs.LabelLines.{cell_at, cells_length}
use Rattle.answer_text.proofs.Joining.{PutsPieces-push, PutsPieces-as, PutsPieces-none, cells-chosen, cells-left}
use Rattle.bench_io.proofs.PutParts.{Puts-as}
use Rattle.answer_text.proofs.texts.put_cells.Goals as goal
use Rattle.answer_text.proofs.texts.put_cells.Goals.{then-has_reading, else-has_reading}

pub loop-place-init : goal.loop-place-init
loop-place-init g c = PutsPieces-none _ _

pub loop-place-preserved : goal.loop-place-preserved
loop-place-preserved g c = elim c.if-has_reading.branch [
  | then-has_reading w ↦ rw (w.failed-is, w.sink-is, w.is_first-is)
      (PutsPieces-as (cells-chosen c.args.present.now (places c.args.standing.now (members c.args.env.now)) c.args.present.now.readings c.loop-place.place c.reading.result c.reading.ensures (sym (c.has_reading.ensures c.reading.result.cell (cell_at c.args.standing.now c.args.present.now c.loop-place.place c.reading.result c.requires c.reading.ensures)) ∙ w.if-has_reading.true))
      (PutsPieces-push (cell_text c.args.present.now c.reading.result.cell) c.loop-place.invariant w.put_next_cell-failed.ensures))
  | else-has_reading w ↦ rw (w.failed-is, w.sink-is, w.is_first-is)
      (PutsPieces-as (cells-left c.args.present.now (places c.args.standing.now (members c.args.env.now)) c.args.present.now.readings c.loop-place.place c.reading.result c.reading.ensures (sym (c.has_reading.ensures c.reading.result.cell (cell_at c.args.standing.now c.args.present.now c.loop-place.place c.reading.result c.requires c.reading.ensures)) ∙ w.if-has_reading.false)) c.loop-place.invariant)
]

pub returns : goal.returns
returns g c =
    Puts-as (ap (λ readings. join_with_byte 44 (cells_in c.args.present.now (places c.args.standing.now (members c.args.env.now)) readings)) (take_all c.loop-place.place c.args.present.now.readings (omega (arith, c.readings-place-end.ensures.value))))
    c.loop-place.invariant.puts

pub has_reading-requires : goal.has_reading-requires
has_reading-requires g c = omega (arith, cells_length c.args.standing.now c.args.present.now c.requires, c.loop-place-test.true, c.readings-place-end.ensures.value)
