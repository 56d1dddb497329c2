use Rattle.std.proofs.Common.{List, subst}
use Rattle.environment_sets.specs.declared.environment.Env.{Env}
use Rattle.environment_sets.specs.Members.{HasMember}
use Rattle.environment_sets.specs.Families.{IsAntichain}
use Rattle.antichains.proofs.antichain.Antichain.is_covered.Goals as goal

pub returns-clause-antichain : goal.returns-clause-antichain
returns-clause-antichain c = let P : List Env → Type 0 = λ es. IsAntichain (HasMember es) in subst P c.self.view_is c.self.invariant.0.1
