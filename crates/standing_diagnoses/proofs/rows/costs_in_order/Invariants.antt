use Rattle.std.proofs.Common.{◌≡◌, map, take}
use Rattle.circuit_model.specs.declared.present.Component.{Component}
use Rattle.standing_diagnoses.proofs.rows.costs_in_order.Given as goal

abbrev pub invariant-loop-place : goal.invariant-loop-place
invariant-loop-place l = l.costs.items ≡ map (λ (p : Component). p.cost) (take l.place l.present.parts)
