use Rattle.std.proofs.Common.{List, subst}
use Rattle.environment_sets.specs.declared.environment.Env.{Env}
use Rattle.environment_sets.specs.Lists.{AreDistinct}
use Rattle.environment_sets.specs.Members.{sets}
use Rattle.antichains.proofs.antichain.Antichain.members.Goals as goal

pub returns-clause-once : goal.returns-clause-once
returns-clause-once c = let P : List Env → Type 0 = λ es. AreDistinct (sets es) in subst P c.self.view_is c.self.invariant.0.0
