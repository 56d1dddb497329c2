use Rattle.std.proofs.Common.{◌≡◌, ℕ, ◌<◌, Some, slice_get}
use Rattle.environment_sets.specs.Lists.{IsIn}
use Rattle.circuit_model.specs.declared.model.Cell.{Cell}
use Rattle.circuit_model.specs.Closure.{fact}
use Rattle.proof_check.proofs.looking.are_at_some.Given as goal

abbrev pub invariant-loop-port : goal.invariant-loop-port
invariant-loop-port l = (port v : ℕ) (c : Cell) → port < l.port → slice_get l.cells port ≡ Some c → IsIn l.facts (fact c v) → ⊥
