use Rattle.std.proofs.Common.{◌≡◌, ℕ, ◌<◌, Some}
use Rattle.circuit_model.specs.declared.model.Assumption.TheVariants.{Reading}
use Rattle.assumption_slots.specs.Slots.{stock}
use Rattle.label_engine.proofs.engine.Engine.slot_of.Given as goal

abbrev pub invariant-loop-slot : goal.invariant-loop-slot
invariant-loop-slot l = (k : ℕ) → k < l.slot → stock l.self.slots k ≡ Some (Reading l.fact) → ⊥
