use Rattle.std.proofs.Common.{take}
use Rattle.environment_sets.specs.Sets.{HitsEach}
use Rattle.environment_sets.specs.Members.{members, HasMember}
use Rattle.first_diagnoses.proofs.own.hits_each.Given as goal

abbrev pub invariant-loop-conflict : goal.invariant-loop-conflict
invariant-loop-conflict l = HitsEach (HasMember (take l.conflict-index l.conflicts)) (members l.set)
