use Rattle.first_diagnoses.specs.Branches.{IsBound}
use Rattle.first_diagnoses.proofs.bound.least_weight.Given as goal

abbrev pub invariant-loop-conflict : goal.invariant-loop-conflict
invariant-loop-conflict l = IsBound l.problem l.branch l.bound
