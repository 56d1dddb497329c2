use Rattle.std.proofs.Common.{◌≡◌, ◌+◌, ◌*◌, ◌≤◌, drop}
use Rattle.environment_sets.specs.Costs.{cost_in}
use Rattle.environment_sets.specs.Members.{members}
use Rattle.circuit_model.specs.Present.{circuit_of}
use Rattle.circuit_model.specs.Probe.{positions_in}
use Rattle.standing_view.specs.Positions.{positions}
use Rattle.probe_planner.specs.Weighing.{cost_at}
use Rattle.probe_planner.proofs.weights.cost_of.Given as goal

abbrev pub invariant-loop-place : goal.invariant-loop-place
invariant-loop-place l = record {
  rest : l.cost + cost_in (drop l.place (positions_in (circuit_of l.present))) (drop l.place (circuit_of l.present).costs) (positions l.standing (members l.diagnosis)) ≡ cost_at l.standing l.present (members l.diagnosis);
  small : l.cost ≤ 255 * l.place;
}
