use Rattle.std.proofs.Common.{◌≡◌, ℕ, ◌<◌, Some, slice_get}
use Rattle.proof_check.proofs.conclusions.are_giving.Given as goal

abbrev pub invariant-loop-port : goal.invariant-loop-port
invariant-loop-port l = (p : ℕ) → p < l.port → slice_get l.cells p ≡ Some l.fact.cell → slice_get l.words p ≡ Some (Some l.fact.value) → ⊥
