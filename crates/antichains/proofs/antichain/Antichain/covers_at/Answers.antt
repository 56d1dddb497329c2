use Rattle.std.proofs.Common.{◌↔◌, IsTrue, subst, ◌∙◌, List}
use Rattle.environment_sets.specs.declared.environment.Env.{Env}
use Rattle.environment_sets.specs.Members.{members}
use Rattle.antichains.specs.Signed.{HasSubsetAt}
use Rattle.antichains.proofs.antichain.Antichain.covers_at.Goals as goal

pub returns-clause-here : goal.returns-clause-here
returns-clause-here c =
    let P : List Env → Type 0 = λ es. IsTrue c.is_subset_at.result ↔ HasSubsetAt es c.args.place (members c.args.env.now) in
    subst P (c.deref.ensures.value ∙ c.self.view_is) c.is_subset_at.ensures.here
