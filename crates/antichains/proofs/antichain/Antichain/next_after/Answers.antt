use Rattle.std.proofs.Common.{List, subst}
use Rattle.std.specs.Option.{option_map, option_copied}
use Rattle.environment_sets.specs.declared.environment.Env.{Env}
use Rattle.environment_sets.specs.declared.environment.TheConstants.{SLOTS}
use Rattle.environment_sets.specs.Members.{members}
use Rattle.environment_sets.specs.Walks.{GivesNextEnv}
use Rattle.antichains.proofs.Nearer.{falls}
use Rattle.antichains.proofs.antichain.Antichain.next_after.Goals as goal

pub returns-clause-next : goal.returns-clause-next
returns-clause-next c =
    let P : List Env → Type 0 = λ es. GivesNextEnv c.args.order.now es c.args.mask.now (option_copied c.args.last) c.first_after.result in subst P c.self.view_is c.first_after.ensures

pub returns-clause-falls : goal.returns-clause-falls
returns-clause-falls c = falls SLOTS c.args.order.now c.args.self.now (members c.args.mask.now) (option_map members (option_copied c.args.last)) c.first_after.result (returns-clause-next c)
