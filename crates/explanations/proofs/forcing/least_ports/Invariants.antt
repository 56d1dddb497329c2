use Rattle.std.proofs.Common.{ℕ, ◌<◌}
use Rattle.explanations.specs.Forcing.{IsForcing}
use Rattle.explanations.proofs.forcing.least_ports.Given as goal

abbrev pub invariant-loop-ports : goal.invariant-loop-ports
invariant-loop-ports l = (k : ℕ) → k < l.ports → IsForcing l.instance l.words l.fact k → ⊥
