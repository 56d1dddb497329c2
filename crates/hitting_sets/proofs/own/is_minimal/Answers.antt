use Rattle.std.proofs.Common.{ℕ, ◌↔◌, IsTrue, List, [], ◌∷◌, ◌++◌}
use Rattle.environment_sets.specs.declared.environment.Env.{Env}
use Rattle.environment_sets.specs.Members.{members, HasMember}
use Rattle.hitting_sets.specs.Own.{HasOwn}
use Rattle.hitting_sets.specs.Hitting.{IsMinimalFor}
use Rattle.hitting_sets.proofs.Minimality.{minimal_by_own}
use Rattle.hitting_sets.proofs.Steps.{own_more}
use Rattle.hitting_sets.proofs.own.is_minimal.Goals as goal

pub returns : goal.returns
returns c =
    let after : List Env = c.args.before.now ++ c.args.conflict.now ∷ [] in
    let D = members c.args.set.now in
    let own : (k : ℕ) → IsTrue (members c.union-own.result k) ↔ HasOwn (HasMember after) D k =
    own_more c.args.before.now c.args.conflict.now D (members c.own_slots.result) (members c.own_slot.result) (members c.union-own.result) c.own_slots.ensures c.own_slot.ensures c.union-own.ensures in
    let law : IsMinimalFor after D ↔ ((k : ℕ) → IsTrue (D k) → HasOwn (HasMember after) D k) = minimal_by_own after D c.requires in (
      λ is. law.1 (λ k there. (own k).0 (c.is_subset.ensures.subset.0 is k there)),
      λ minimal. c.is_subset.ensures.subset.1 (λ k there. (own k).1 (law.0 minimal k there)),
    )
