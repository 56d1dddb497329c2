use Rattle.std.proofs.Common.{ℕ, ◌<◌}
use Rattle.circuit_model.specs.Inference.{IsUnknownAt}
use Rattle.component_models.proofs.inference.has_open_port.Given as goal

abbrev pub invariant-loop-port : goal.invariant-loop-port
invariant-loop-port l = (port : ℕ) → port < l.port → IsUnknownAt l.known port → ⊥
