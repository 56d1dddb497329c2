use Rattle.std.proofs.Common.{true≢false, refl, sym, subst, ◌∙◌, List}
use Rattle.environment_sets.specs.declared.environment.Env.{Env}
use Rattle.environment_sets.specs.Members.{members, HasMember}
use Rattle.environment_sets.specs.Families.{IsCovered}
use Rattle.antichains.specs.Signed.{HasSubsetAt}
use Rattle.antichains.proofs.Changes.{covered_at}
use Rattle.antichains.proofs.antichain.Antichain.covers_from.Goals as goal

pub returns-in-Some-clause-covered : goal.returns-in-Some-clause-covered
returns-in-Some-clause-covered c =
    let E = members c.args.env.now in
    let P : List Env → Type 0 = λ es. IsCovered (HasMember es) E in
    (λ _. subst P c.self.view_is (covered_at E c.self.inside.signed.list.items c.in-Some.found c.in-Some.ensures), λ _. refl)

pub returns-in-Some-clause-place : goal.returns-in-Some-clause-place
returns-in-Some-clause-place c =
    let P : List Env → Type 0 = λ es. HasSubsetAt es c.in-Some.found (members c.args.env.now) in
    λ _. subst P c.self.view_is c.in-Some.ensures

pub returns-in-Some-clause-kept : goal.returns-in-Some-clause-kept
returns-in-Some-clause-kept c = λ h. absurd (true≢false (sym (c.covers_at.ensures.here.1 h) ∙ c.if-covers_at.false))

pub returns-in-None-clause-covered : goal.returns-in-None-clause-covered
returns-in-None-clause-covered c =
    let P : List Env → Type 0 = λ es. IsCovered (HasMember es) (members c.args.env.now) in
    (λ h. absurd (cc), λ h. absurd (c.in-None.ensures (subst P (sym c.self.view_is) h)))
