use Rattle.std.proofs.Common.{take}
use Rattle.environment_sets.specs.Members.{sets}
use Rattle.environment_sets.specs.Lists.{IsRoster}
use Rattle.hitting_sets.proofs.Steps.{BecomeOf}
use Rattle.hitting_sets.proofs.extension.extend.Given as goal

abbrev pub invariant-loop-set : goal.invariant-loop-set
invariant-loop-set l = IsRoster (BecomeOf l.before l.conflict (take l.set-index l.sets)) (sets l.found.items)
