use Rattle.assumption_slots.specs.Slots.{AreFreeFrom}
use Rattle.assumption_slots.proofs.slots.end_before.Given as goal

abbrev pub invariant-loop-place : goal.invariant-loop-place
invariant-loop-place l = AreFreeFrom l.list l.place
