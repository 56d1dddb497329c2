use Rattle.std.proofs.Common.{ℕ, List, IsTrue, sym, subst}
use Rattle.environment_sets.specs.declared.environment.Env.{Env}
use Rattle.environment_sets.specs.Members.{members, HasMember}
use Rattle.environment_sets.specs.Families.{Drops}
use Rattle.environment_sets.specs.Sets.{Set}
use Rattle.antichains.specs.Largest.{AreWithin}
use Rattle.antichains.proofs.Changes.{lacks, IsLeft, antichain-left, drops_slot-left, within-dropped}
use Rattle.antichains.proofs.antichain.Antichain.drop_slot.Goals as goal

pub invariant_of-self : goal.invariant_of-self
invariant_of-self c =
    let slot = c.args.slot in
    let old = c.self.inside.signed.list.items in
    let new = c.drop_slot.new.self.list.items in
    let left : IsLeft (lacks slot) old new = record { filtered = c.drop_slot.ensures.left } in
    let drops = drops_slot-left slot old new left in
    let reach : Set ℕ = members c.self.inside.reach in
    let Q : Set ℕ → Type 0 = λ U. AreWithin U (HasMember new) in
    (antichain-left (lacks slot) (λ F. IsTrue (F slot)) c.self.inside.largest old new left drops c.self.invariant.0, c.drop_slot.ensures.signed, subst Q (sym c.without-self-inside.ensures) (within-dropped reach slot old new drops c.self.invariant.2))

pub returns-clause-dropped : goal.returns-clause-dropped
returns-clause-dropped c =
    let slot = c.args.slot in
    let new = c.drop_slot.new.self.list.items in
    let P : List Env → Type 0 = λ old. Drops (HasMember old) (HasMember new) (λ F. IsTrue (F slot)) in
    subst P c.self.view_is (drops_slot-left slot c.self.inside.signed.list.items new (record { filtered = c.drop_slot.ensures.left }))

pub returns-clause-antichain : goal.returns-clause-antichain
returns-clause-antichain c = (invariant_of-self c).0.1
