use Rattle.std.proofs.Common.{◌≡◌, List, [], ◌∷◌, ◌++◌, true≢false, subst, sym, ◌∙◌}
use Rattle.environment_sets.specs.declared.environment.Env.{Env}
use Rattle.environment_sets.specs.Sets.{only, ◌∪◌, HitsEach}
use Rattle.environment_sets.specs.Members.{members, HasMember}
use Rattle.environment_sets.proofs.Slots.{slots_are_below}
use Rattle.hitting_sets.specs.Hitting.{IsMinimalFor}
use Rattle.hitting_sets.proofs.Rosters.{adds_none, adds_one}
use Rattle.hitting_sets.proofs.Steps.{hits_wider}
use Rattle.hitting_sets.proofs.extension.add_wider.Goals as goal

pub with-wider-requires : goal.with-wider-requires
with-wider-requires c = slots_are_below c.args.conflict.now c.args.slot c.requires.slot

pub is_minimal-requires : goal.is_minimal-requires
is_minimal-requires c =
    subst (HitsEach (HasMember (c.args.before.now ++ c.args.conflict.now ∷ []))) (sym c.with-wider.ensures) (hits_wider c.args.before.now c.args.conflict.now (members c.args.set.now) c.args.slot c.requires.hits c.requires.slot)

pub returns-then-is_minimal : goal.returns-then-is_minimal
returns-then-is_minimal c =
    let after : List Env = c.args.before.now ++ c.args.conflict.now ∷ [] in
    adds_one (λ D. IsMinimalFor after D × (D ≡ members c.args.set.now ∪ only c.args.slot)) c.args.found.now.items c.push.new.self.items c.with-wider.result c.in_ok-push.ensures.items (c.is_minimal.ensures.0 c.if-is_minimal.true, c.with-wider.ensures) (λ D h. c.with-wider.ensures ∙ sym h.1)

pub returns : goal.returns
returns c =
    let after : List Env = c.args.before.now ++ c.args.conflict.now ∷ [] in
    adds_none (λ D. IsMinimalFor after D × (D ≡ members c.args.set.now ∪ only c.args.slot)) c.args.found.now.items (λ D h.
    let minimal : IsMinimalFor after (members c.with-wider.result) = subst (IsMinimalFor after) (h.1 ∙ sym c.with-wider.ensures) h.0 in
    true≢false (sym (c.is_minimal.ensures.1 minimal) ∙ c.if-is_minimal.false))
