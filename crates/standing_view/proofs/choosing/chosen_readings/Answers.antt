use Rattle.std.proofs.Common.{cond, IsTrue, List, [], ◌∷◌, ◌++◌, subst, sym, ap, ◌∙◌}
use Rattle.circuit_model.specs.declared.model.Cell.{Cell}
use Rattle.circuit_model.specs.Present.{is_cell_before}
use Rattle.environment_sets.specs.Lists.{IsIn}
use Rattle.environment_sets.specs.Members.{members}
use Rattle.standing_view.specs.Choosing.{has_cell}
use Rattle.standing_view.proofs.Picked.{cells_more, cells_before}
use Rattle.standing_view.proofs.choosing.chosen_readings.Goals as goal

pub add_cell-requires : goal.add_cell-requires
add_cell-requires c =
    let st = c.args.standing.now in
    let cell = c.cell_at-cell.result in
    let P : List Cell → Type 0 = λ xs. (d : Cell) → IsIn xs d → IsTrue (is_cell_before d cell) in
    subst P (sym c.loop-place.invariant) (cells_before (has_cell st (members c.args.env.now)) st.cells c.loop-place.place cell c.cell_at-cell.ensures c.count_readings-place-end.ensures.standing.rising)

pub loop-place-preserved : goal.loop-place-preserved
loop-place-preserved c =
    let st = c.args.standing.now in
    let cell = c.cell_at-cell.result in
    cells_more (has_cell st (members c.args.env.now)) st.cells c.loop-place.place cell c.cell_at-cell.ensures c.add_cell.new.list c.has_reading.result
    (c.in_ok-add_cell.ensures ∙ ap (λ (xs : List Cell). xs ++ cond c.has_reading.result (cell ∷ []) []) c.loop-place.invariant)
    (c.has_reading.ensures cell c.cell_at-cell.ensures)
