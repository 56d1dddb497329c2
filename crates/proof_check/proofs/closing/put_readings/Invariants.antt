use Rattle.std.proofs.Common.{◌≡◌, ◌↔◌, ℕ, ◌<◌, Some, slice_get}
use Rattle.environment_sets.specs.Lists.{IsIn}
use Rattle.circuit_model.specs.declared.model.Fact.{Fact}
use Rattle.proof_check.specs.Ordered.{AreInOrder}
use Rattle.proof_check.proofs.closing.put_readings.Given as goal

abbrev pub invariant-loop-place : goal.invariant-loop-place
invariant-loop-place l = record {
  order : AreInOrder l.found;
  readings : (f : Fact) → IsIn l.found f ↔ ((k : ℕ) × (k < l.place) × (slice_get l.present.readings k ≡ Some f) × IsIn l.chosen.readings f.cell);
}
