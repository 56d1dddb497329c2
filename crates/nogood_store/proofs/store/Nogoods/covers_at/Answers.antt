use Rattle.std.proofs.Common.{◌↔◌, IsTrue, subst, List}
use Rattle.environment_sets.specs.declared.environment.Env.{Env}
use Rattle.environment_sets.specs.Members.{members}
use Rattle.antichains.specs.Signed.{HasSubsetAt}
use Rattle.nogood_store.proofs.store.Nogoods.covers_at.Goals as goal

pub returns-clause-here : goal.returns-clause-here
returns-clause-here c =
    let P : List Env → Type 0 = λ es. IsTrue c.covers_at.result ↔ HasSubsetAt es c.args.place (members c.args.env.now) in
    subst P c.self.view_is c.covers_at.ensures.here
