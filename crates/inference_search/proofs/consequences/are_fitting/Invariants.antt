use Rattle.std.proofs.Common.{◌≡◌, ℕ, ◌<◌, ◌^◌, Some, slice_get}
use Rattle.inference_search.proofs.consequences.are_fitting.Given as goal

abbrev pub invariant-loop-port : goal.invariant-loop-port
invariant-loop-port l = (p : ℕ) → p < l.port → (w v : ℕ) → slice_get l.widths p ≡ Some w → slice_get l.known p ≡ Some (Some v) → v < 2 ^ w
