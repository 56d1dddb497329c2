use Rattle.std.proofs.Common.{◌≡◌, get_or, arith, refl, sym, subst}
use Rattle.std.proofs.lemmas.Option.{slice_get-get_or}
use Rattle.circuit_model.specs.declared.model.Cell.{Cell}
use Rattle.environment_sets.specs.Lists.{IsIn}
use Rattle.inference_search.proofs.Adding.{one_before, all_before, added_map}
use Rattle.inference_search.proofs.near.add_cells.Goals as goal

pub loop-cell-preserved : goal.loop-cell-preserved
loop-cell-preserved c =
    let more = c.args.more.now in
    let i = c.loop-cell.cell-index in
    let d : Cell = record { net = 0; cycle = 0 } in
    one_before more (λ (c d : Cell). d ≡ c) i (get_or more i d) (slice_get-get_or more i d c.loop-cell-test.true) c.args.cells.now.items c.loop-cell.cells.items c.add_cell.new.cells.items c.loop-cell.invariant c.in_ok-add_cell.ensures

pub returns : goal.returns
returns c =
    let more = c.args.more.now in
    let old = c.args.cells.now.items in
    let new = c.loop-cell.cells.items in
    added_map (λ d. (x : Cell) × IsIn more x × (d ≡ x)) (IsIn more) old new (λ d. (λ h. subst (IsIn more) (sym h.2) h.1, λ h. (d, h, refl)))
    (all_before more (λ (c d : Cell). d ≡ c) c.loop-cell.cell-index (omega (arith, c.loop-cell-test.false)) old new c.loop-cell.invariant)
