use Rattle.std.proofs.Common.{◌≡◌, ℕ, None, length}
use Rattle.assumption_slots.specs.Slots.{stock}
use Rattle.assumption_slots.proofs.slots.Slots.open.Given as goal

abbrev pub invariant-loop-slot : goal.invariant-loop-slot
invariant-loop-slot l = (length l.list.items ≡ l._slot) × ((k : ℕ) → stock l.list.items k ≡ None)
