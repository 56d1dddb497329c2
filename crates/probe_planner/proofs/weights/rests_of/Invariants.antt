use Rattle.std.proofs.Common.{◌≡◌, map, take}
use Rattle.environment_sets.specs.Members.{sets}
use Rattle.probe_planner.specs.Covering.{rest}
use Rattle.probe_planner.proofs.weights.rests_of.Given as goal

abbrev pub invariant-loop-diagnosis : goal.invariant-loop-diagnosis
invariant-loop-diagnosis l = sets l.rests.items ≡ map (rest l.standing) (sets (take l.diagnosis-index l.diagnoses))
