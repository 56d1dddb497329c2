use Rattle.std.proofs.Common.{◌≡◌, ℕ, ◌<◌, Some, slice_get}
use Rattle.circuit_model.specs.declared.model.Instance.{Instance}
use Rattle.assumption_slots.specs.Table.{HasCellAt, IsMarked}
use Rattle.assumption_slots.proofs.table.mark_part.Given as goal

abbrev pub invariant-loop-place : goal.invariant-loop-place
invariant-loop-place l =
    IsMarked l.slot l.is_in (λ place. (i : ℕ) × (i < l.place) × ((instance : Instance) × (slice_get l.part i ≡ Some instance) × HasCellAt instance.cells place)) l.fn.rows l.rows
