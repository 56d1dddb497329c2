use Rattle.std.proofs.lemmas.Bool.{both_ways}
use Rattle.environment_sets.specs.Members.{members}
use Rattle.hitting_sets.proofs.Minimality.{minimal_by_own}
use Rattle.first_diagnoses.proofs.Looking.{sought_own}
use Rattle.first_diagnoses.proofs.rounds.look_at.Goals as goal

pub returns-then-not-has_own : goal.returns-then-not-has_own
returns-then-not-has_own c = λ D sought. both_ways c.has_own.result c.if-not-has_own.true (c.has_own.ensures.1 (sought_own c.args.problem.now c.args.branch.now D sought))

pub returns-then-hits_each : goal.returns-then-hits_each
returns-then-hits_each c =
    (minimal_by_own c.args.problem.now.conflicts.now (members c.args.branch.now.chosen) (c.hits_each.ensures.0 c.if-hits_each.true)).1 (c.has_own.ensures.0 c.if-not-has_own.false)
