use Rattle.std.proofs.Common.{List, subst}
use Rattle.environment_sets.specs.declared.environment.Env.{Env}
use Rattle.environment_sets.specs.Sets.{◌⊆◌}
use Rattle.environment_sets.specs.Members.{members, HasMember}
use Rattle.environment_sets.specs.Families.{Drops}
use Rattle.antichains.proofs.Changes.{leaves_out, IsLeft, antichain-left, drops_over-left, within-left}
use Rattle.antichains.proofs.antichain.Antichain.drop_over.Goals as goal

pub invariant_of-self : goal.invariant_of-self
invariant_of-self c =
    let env = c.args.env.now in
    let old = c.self.inside.signed.list.items in
    let new = c.drop_over.new.self.list.items in
    let left : IsLeft (leaves_out env) old new = record { filtered = c.drop_over.ensures.left } in
    let drops = drops_over-left env old new left in
    (antichain-left (leaves_out env) (λ F. members env ⊆ F) c.self.inside.largest old new left drops c.self.invariant.0, c.drop_over.ensures.signed, within-left (members c.self.inside.reach) (λ F. members env ⊆ F) old new drops c.self.invariant.2)

pub returns-clause-dropped : goal.returns-clause-dropped
returns-clause-dropped c =
    let env = c.args.env.now in
    let new = c.drop_over.new.self.list.items in
    let P : List Env → Type 0 = λ old. Drops (HasMember old) (HasMember new) (λ F. members env ⊆ F) in
    subst P c.self.view_is (drops_over-left env c.self.inside.signed.list.items new (record { filtered = c.drop_over.ensures.left }))

pub returns-clause-antichain : goal.returns-clause-antichain
returns-clause-antichain c = (invariant_of-self c).0.1
