use Rattle.std.proofs.Common.{ℕ, List, true≢false, inl, refl, subst, sym, ◌∙◌}
use Rattle.std.proofs.lemmas.List.{take_all}
use Rattle.environment_sets.specs.Sets.{Hits}
use Rattle.environment_sets.specs.Members.{members}
use Rattle.environment_sets.proofs.Listings.{IsIn-get_or}
use Rattle.hitting_sets.specs.Hitting.{Adds}
use Rattle.hitting_sets.proofs.Rosters.{adds_one}
use Rattle.hitting_sets.proofs.Steps.{Becomes, BecomesBy, minimal_stays, becomes_by_more, becomes_all, kept_alone}
use Rattle.hitting_sets.proofs.extension.add_from.Goals as goal

pub returns-then-meets : goal.returns-then-meets
returns-then-meets c =
    let hit : Hits (members c.args.set.now) (members c.args.conflict.now) = c.meets.ensures.0 c.if-meets.true in
    adds_one (Becomes c.args.before.now c.args.conflict.now (members c.args.set.now)) c.args.found.now.items c.push.new.self.items c.args.set.now c.in_ok-push.ensures.items (minimal_stays c.args.before.now c.args.conflict.now (members c.args.set.now) c.requires.minimal hit, inl (hit, refl)) (λ D h. kept_alone (members c.args.conflict.now) (members c.args.set.now) D hit h.1)

pub add_wider-requires-clause-slot : goal.add_wider-requires-clause-slot
add_wider-requires-clause-slot c =
    (c.requires.slots.exact _).0 (IsIn-get_or c.args.slots.now c.loop-slot.slot-index 0 c.loop-slot-test.true)

pub loop-slot-preserved : goal.loop-slot-preserved
loop-slot-preserved c =
    becomes_by_more c.args.before.now c.args.conflict.now (members c.args.set.now) c.args.slots.now c.loop-slot.slot-index _ c.args.found.now.items c.loop-slot.found.items c.add_wider.new.found.items (λ hit. true≢false (sym (c.meets.ensures.1 hit) ∙ c.if-meets.false)) c.requires.slots c.loop-slot-test.true refl c.loop-slot.invariant c.in_ok-add_wider.ensures

pub returns : goal.returns
returns c =
    let slots = c.args.slots.now in
    let P : List ℕ → Type 0 = λ ks. Adds (BecomesBy c.args.before.now c.args.conflict.now (members c.args.set.now) ks) c.args.found.now.items c.loop-slot.found.items in
    becomes_all c.args.before.now c.args.conflict.now (members c.args.set.now) slots c.args.found.now.items c.loop-slot.found.items (λ hit. true≢false (sym (c.meets.ensures.1 hit) ∙ c.if-meets.false)) c.requires.slots (subst P (take_all c.loop-slot.slot-index slots c.loop-slot-test.false) c.loop-slot.invariant)
