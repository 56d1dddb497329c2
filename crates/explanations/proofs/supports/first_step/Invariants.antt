use Rattle.std.proofs.Common.{◌≡◌, ℕ, ◌<◌, Some, slice_get}
use Rattle.circuit_model.specs.Present.{circuit_of}
use Rattle.explanations.specs.Forcing.{IsForcingAt}
use Rattle.explanations.proofs.supports.first_step.Given as goal

abbrev pub invariant-loop-i : goal.invariant-loop-i
invariant-loop-i l = (k : ℕ) → k < l.i → (position : ℕ) → slice_get l.chosen.parts k ≡ Some position → (place ports : ℕ) → IsForcingAt (circuit_of l.present) l.closed.facts l.round l.fact position place ports → ⊥
