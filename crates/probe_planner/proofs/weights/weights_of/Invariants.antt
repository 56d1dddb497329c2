use Rattle.std.proofs.Common.{◌≡◌, map, take}
use Rattle.environment_sets.specs.Members.{members}
use Rattle.probe_planner.specs.Weighing.{weight_at}
use Rattle.probe_planner.proofs.weights.weights_of.Given as goal

abbrev pub invariant-loop-diagnosis : goal.invariant-loop-diagnosis
invariant-loop-diagnosis l = l.weights.items ≡ map (λ e. weight_at l.standing l.present (members e)) (take l.diagnosis-index l.diagnoses)
