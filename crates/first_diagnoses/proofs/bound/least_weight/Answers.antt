use Rattle.std.proofs.Common.{refl}
use Rattle.environment_sets.specs.Members.{members}
use Rattle.environment_sets.proofs.Membership.{map-IsIn}
use Rattle.hitting_sets.proofs.Rosters.{IsIn-at, IsIn-take}
use Rattle.first_diagnoses.specs.declared.bound.Bound.{Bound}
use Rattle.first_diagnoses.proofs.Bounding.{bound_chosen, bound_all}
use Rattle.first_diagnoses.proofs.bound.least_weight.Goals as goal

pub weight_of-requires-clause-listed : goal.weight_of-requires-clause-listed
weight_of-requires-clause-listed c = λ k there. IsIn-take c.args.problem.now.order.now c.args.branch.now.place k (c.requires.branch.decided k there)

pub loop-conflict-init : goal.loop-conflict-init
loop-conflict-init c =
    let bound : Bound = record { least = c.weight_of.result; taken = c.args.branch.now.chosen } in
    bound_chosen c.args.problem.now c.args.branch.now bound c.weight_of.ensures refl

pub with_conflict-requires-clause-conflict : goal.with_conflict-requires-clause-conflict
with_conflict-requires-clause-conflict c =
    let conflicts = c.args.problem.now.conflicts.now in
    map-IsIn members conflicts c.conflict-item.result (IsIn-at conflicts c.loop-conflict.conflict-index c.conflict-item.result c.loop-conflict-test.true c.conflict-item.is)

pub returns : goal.returns
returns c = bound_all c.args.problem.now c.args.branch.now c.loop-conflict.bound c.loop-conflict.invariant
