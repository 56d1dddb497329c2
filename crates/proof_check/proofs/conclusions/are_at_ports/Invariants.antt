use Rattle.std.proofs.Common.{◌≡◌, ℕ, ◌<◌, Some, slice_get}
use Rattle.proof_check.proofs.conclusions.are_at_ports.Given as goal

abbrev pub invariant-loop-port : goal.invariant-loop-port
invariant-loop-port l = (p v : ℕ) → p < l.port → slice_get l.known p ≡ Some (Some v) → p < l.ports
