use Rattle.std.proofs.Common.{IsTrue}
use Rattle.environment_sets.specs.Members.{members}
use Rattle.inference_search.specs.Choices.{IsDoneAt}
use Rattle.inference_search.proofs.Finding.{Finds-next, Finds-map}
use Rattle.inference_search.proofs.Staying.{IsDoneAt-stays}
use Rattle.inference_search.proofs.Remembering.{done_below_next, done_at_each, done_near}
use Rattle.inference_search.proofs.components.add_near.Goals as goal

pub loop-slot-preserved : goal.loop-slot-preserved
loop-slot-preserved c =
    let s = c.args.search.now in
    let near = members c.near-near.result.now in
    Finds-next _ (λ k found. IsTrue (near k) → IsDoneAt c.args.slots.now s.facts.now s.must k found)
    (λ k xs ys stays done is. IsDoneAt-stays k s.must s.facts.now c.args.slots.now xs ys stays (done is))
    c.in-Some.slot _ _ _
    (Finds-map _ _ _ _ _ _ (λ i q. q)
    (λ done. done_below_next near (λ k. IsDoneAt c.args.slots.now s.facts.now s.must k c.loop-slot.found.items) c.loop-slot.next c.in-Some.slot c.in-Some.ensures.next done)
    c.loop-slot.invariant)
    (Finds-map _ _ _ _ _ _ (λ i q. (c.in-Some.slot, q)) (λ done is. done) c.in_ok-add_slot.ensures)

pub returns : goal.returns
returns c =
    let s = c.args.search.now in
    let near = members c.near-near.result.now in
    let found = c.loop-slot.found.items in
    Finds-map _ _ _ _ _ _ (λ i q. q)
    (λ done k inside.
    done_near c.args.slots.now s.must s.facts.now found c.args.fact near c.requires c.near-near.ensures.complete k
    (done_at_each near (λ k. IsDoneAt c.args.slots.now s.facts.now s.must k found) c.loop-slot.next c.in_default.ensures.next done k))
    c.loop-slot.invariant
