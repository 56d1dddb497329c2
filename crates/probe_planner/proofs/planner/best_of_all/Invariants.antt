use Rattle.probe_planner.specs.Planning.{IsBestSoFar, first_cell}
use Rattle.probe_planner.proofs.planner.best_of_all.Given as goal

abbrev pub invariant-loop-net : goal.invariant-loop-net
invariant-loop-net l = IsBestSoFar l.present (first_cell l.net) l.best
