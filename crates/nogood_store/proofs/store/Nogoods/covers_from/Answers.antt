use Rattle.std.proofs.Common.{sym, subst, List}
use Rattle.environment_sets.specs.declared.environment.Env.{Env}
use Rattle.environment_sets.specs.Members.{members}
use Rattle.antichains.specs.Signed.{HasSubsetAt}
use Rattle.nogood_store.proofs.store.Nogoods.covers_from.Goals as goal

pub returns-clause-place : goal.returns-clause-place
returns-clause-place c =
    let P : List Env → Type 0 = λ es. HasSubsetAt es c.covers_from.new.place (members c.args.env.now) in
    λ is. subst P c.self.view_is (c.covers_from.ensures.place is)

pub returns-clause-kept : goal.returns-clause-kept
returns-clause-kept c =
    let P : List Env → Type 0 = λ es. HasSubsetAt es c.args.place.now (members c.args.env.now) in
    λ there. c.covers_from.ensures.kept (subst P (sym c.self.view_is) there)
