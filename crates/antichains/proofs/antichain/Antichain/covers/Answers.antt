use Rattle.std.proofs.Common.{◌↔◌, Bool, IsTrue, sym, subst, List}
use Rattle.environment_sets.specs.declared.environment.Env.{Env}
use Rattle.environment_sets.specs.Members.{members, HasMember}
use Rattle.environment_sets.specs.Families.{IsCovered}
use Rattle.antichains.proofs.Changes.{some_where_covered}
use Rattle.antichains.proofs.antichain.Antichain.covers.Goals as goal

pub returns : goal.returns
returns c =
    let E = members c.args.env.now in
    let found = c.place_of_subset.result in
    let Q : Bool → List Env → Type 0 = λ b es. IsTrue b ↔ IsCovered (HasMember es) E in
    let es : List Env = c.self.inside.signed.list.items in
    subst (Q c.is_some.result) c.self.view_is (subst (λ (b : Bool). Q b es) (sym c.is_some.ensures) (some_where_covered E es found c.place_of_subset.ensures))
