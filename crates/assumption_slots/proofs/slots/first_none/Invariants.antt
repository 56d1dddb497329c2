use Rattle.std.proofs.Common.{ℕ, ◌<◌, IsSome}
use Rattle.assumption_slots.specs.Slots.{stock}
use Rattle.assumption_slots.proofs.slots.first_none.Given as goal

abbrev pub invariant-loop-place : goal.invariant-loop-place
invariant-loop-place l = (k : ℕ) → k < l.place → IsSome (stock l.list k)
