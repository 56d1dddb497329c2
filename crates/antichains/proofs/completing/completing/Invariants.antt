use Rattle.environment_sets.specs.Members.{members, HasMember}
use Rattle.antichains.specs.Completed.{Complete, Lacking}
use Rattle.antichains.proofs.completing.completing.Given as goal

abbrev pub invariant-loop-place : goal.invariant-loop-place
invariant-loop-place l = Complete (members l.slots) (Lacking l.lacked (HasMember l.signed.list.items)) (members l.env)
