use Rattle.probe_planner.specs.Planning.{IsBestSoFar}
use Rattle.probe_planner.proofs.planner.best_of_net.Given as goal

abbrev pub invariant-loop-cycle : goal.invariant-loop-cycle
invariant-loop-cycle l = IsBestSoFar l.present (record { net = l.net; cycle = l.cycle }) l.best
