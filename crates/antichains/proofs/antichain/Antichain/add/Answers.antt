use Rattle.std.proofs.Common.{◌≤◌, ℕ, sym, List, subst}
use Rattle.std.proofs.Math.Nat.{le-max_left, le-max_right}
use Rattle.environment_sets.specs.declared.environment.Env.{Env}
use Rattle.environment_sets.specs.Members.{members, HasMember}
use Rattle.environment_sets.specs.Sets.{Set}
use Rattle.environment_sets.specs.Families.{IsCovered, Adds}
use Rattle.antichains.specs.Largest.{AreWithin, ListsAntichain}
use Rattle.antichains.proofs.Changes.{leaves_out, IsLeft, adds-left, antichain-added, within-added}
use Rattle.antichains.proofs.antichain.Antichain.add.Goals as goal

pub invariant_of-self-2 : goal.invariant_of-self-2
invariant_of-self-2 c =
    let old : List Env = c.self.inside.signed.list.items in
    let left : List Env = c.drop_supersets.new.signed.list.items in
    let Left : List Env → Type 0 = λ es. IsLeft (leaves_out c.args.env) es left in
    let is : Left old = subst Left c.make_room.ensures.same (record { filtered = c.drop_supersets.ensures.left }) in
    let largest : ℕ = c.self.inside.largest in
    let size : ℕ = c.size.result in
    let P : List Env → Type 0 = λ es. IsCovered (HasMember es) (members c.args.env) → ⊥ in
    let Q : ℕ → Type 0 = λ n. n ≤ c.max-self-inside.result in
    let more : largest ≤ c.max-self-inside.result = rw c.max-self-inside.ensures (le-max_left largest size) in
    let reach : Set ℕ = members c.self.inside.reach in
    let R : Set ℕ → Type 0 = λ U. AreWithin U (HasMember c.push.new.self.list.items) in
    let fits : size ≤ c.max-self-inside.result = rw c.max-self-inside.ensures (le-max_right largest size) in
    (antichain-added c.args.env old left c.push.new.self.list.items largest c.max-self-inside.result is c.push.ensures.pushed (subst P (sym c.self.view_is) c.requires) more (subst Q c.size.ensures fits) c.self.invariant.0, c.push.ensures.signed, subst R (sym c.union-self-inside.ensures) (within-added reach c.args.env old c.push.new.self.list.items (adds-left c.args.env old left c.push.new.self.list.items is c.push.ensures.pushed) c.self.invariant.2))

pub returns-clause-added : goal.returns-clause-added
returns-clause-added c =
    let left = c.drop_supersets.new.signed.list.items in
    let new = c.push.new.self.list.items in
    let Left : List Env → Type 0 = λ es. IsLeft (leaves_out c.args.env) es left in
    let is : Left c.self.inside.signed.list.items = subst Left c.make_room.ensures.same (record { filtered = c.drop_supersets.ensures.left }) in
    let P : List Env → Type 0 = λ old. Adds (HasMember old) (HasMember new) (members c.args.env) in
    subst P c.self.view_is (adds-left c.args.env c.self.inside.signed.list.items left new is c.push.ensures.pushed)

pub returns-clause-antichain : goal.returns-clause-antichain
returns-clause-antichain c = (invariant_of-self-2 c).0.1

pub invariant_of-self : goal.invariant_of-self
invariant_of-self c =
    let P : List Env → Type 0 = λ es. ListsAntichain c.self.inside.largest es in
    let Q : List Env → Type 0 = λ es. AreWithin (members c.self.inside.reach) (HasMember es) in
    (subst P (sym c.make_room.ensures.same) c.self.invariant.0, c.make_room.ensures.signed, subst Q (sym c.make_room.ensures.same) c.self.invariant.2)

pub returns-in_err-make_room-clause-antichain : goal.returns-in_err-make_room-clause-antichain
returns-in_err-make_room-clause-antichain c = (invariant_of-self c).0.1
