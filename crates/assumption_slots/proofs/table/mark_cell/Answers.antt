use Rattle.std.proofs.Common.{arith, refl, sym, ◌∙◌}
use Rattle.std.proofs.lemmas.Option.{slice_get_read}
use Rattle.assumption_slots.proofs.Tables.{marked_at, marked_map}
use Rattle.assumption_slots.proofs.table.mark_cell.Goals as goal

pub returns : goal.returns
returns c =
    marked_map c.args.slot c.args.is_in _ _ _ _ (λ place e. sym c.place_of-place.ensures.place ∙ e) (λ place e. c.place_of-place.ensures.place ∙ e)
    (marked_at c.args.slot c.args.is_in c.args.rows.now c.place_of-place.result c.index-rows-place.result c.marked.result (omega arith)
    (slice_get_read c.args.rows.now _ c.place_of-place.result c.index-rows-place.result refl (omega arith) c.index-rows-place.is) c.marked.ensures.here c.marked.ensures.others)
