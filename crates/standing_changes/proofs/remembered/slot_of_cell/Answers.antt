use Rattle.std.proofs.Common.{◌≡◌, ℕ, Some, arith}
use Rattle.std.specs.List.{slice_get}
use Rattle.std.proofs.lemmas.Option.{slice_get_within}
use Rattle.environment_sets.proofs.Membership.{slice_get-IsIn}
use Rattle.standing_changes.proofs.remembered.slot_of_cell.Goals as goal

pub loop-place-init : goal.loop-place-init
loop-place-init c = λ k low. absurd (omega arith)

pub unreachable-requires : goal.unreachable-requires
unreachable-requires c =
    let at : (k : ℕ) × (slice_get c.args.standing.now.cells k ≡ Some c.args.cell) = slice_get-IsIn c.args.standing.now.cells c.args.cell c.requires in
    let low = slice_get_within c.args.standing.now.cells at.0 c.args.cell at.1 in
    c.loop-place.invariant at.0 (omega (arith, low, c.loop-place-test.false, c.count_readings-place-end.ensures.value)) at.1
