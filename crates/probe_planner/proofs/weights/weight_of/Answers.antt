use Rattle.std.proofs.Common.{◌-◌, ◌^◌, min, ap₂, ◌∙◌, arith}
use Rattle.circuit_model.specs.Probe.{weight_for_cost}
use Rattle.probe_planner.proofs.Adding.{shifted}
use Rattle.probe_planner.proofs.weights.weight_of.Goals as goal

pub returns : goal.returns
unfolding weight_for_cost
returns c =
    shifted c.from-most.result c.min.result (omega (arith, c.from-most.ensures))
    ∙ ap₂ (λ m k. 2 ^ (m - k)) c.from-most.ensures (c.min.ensures ∙ ap₂ min c.cost_of.ensures c.from-most.ensures)
