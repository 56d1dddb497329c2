use Rattle.std.proofs.Common.{◌≡◌, ℕ, IsTrue, List, length, take, drop, ◌++◌, map, sym, subst, ◌∙◌, IsPermutation}
use Rattle.std.proofs.lemmas.List.{take_at}
use Rattle.std.proofs.lemmas.List.Sorted.{length_permutation}
use Rattle.circuit_model.specs.Present.{circuit_of}
use Rattle.circuit_model.specs.Probe.{AreConflicts}
use Rattle.environment_sets.specs.declared.environment.Env.{Env}
use Rattle.environment_sets.specs.Lists.{IsListing}
use Rattle.environment_sets.specs.Members.{members, sets, HasMember}
use Rattle.environment_sets.specs.Orders.{ComesBefore}
use Rattle.environment_sets.specs.Sets.{Set, ◌⊆◌}
use Rattle.assumption_slots.specs.Slots.{stock}
use Rattle.standing_view.specs.Positions.{positions, AreInParts}
use Rattle.standing_view.specs.Conflicts.{AreLeastOf, meets}
use Rattle.standing_view.proofs.Conflicting.{parts_listed, listed_conflicts}
use Rattle.standing_view.proofs.Sorted.{sorted_listing}
use Rattle.standing_view.proofs.listing.conflicts.Goals as goal

pub sort-requires-clause-listed : goal.sort-requires-clause-listed
sort-requires-clause-listed c = parts_listed c.args.standing.now c.order.result.now (members c.parts-parts.result) c.order.ensures.value c.parts-parts.ensures

sorted : (c : goal.After-drop-nogoods-2) → take c.in_ok-found.found.len (c.sort.new.environments ++ drop (length c.sort.new.environments) c.in_ok-found.found.items) ≡ c.sort.new.environments
sorted c =
    take_at c.sort.new.environments (drop (length c.sort.new.environments) c.in_ok-found.found.items) c.in_ok-found.found.len
    (length_permutation c.deref_mut.result.now c.sort.new.environments c.sort.ensures.permutation ∙ c.deref_mut.ensures.len)

listing : (c : goal.After-drop-nogoods-2) → IsListing (ComesBefore c.order.result.now) (λ E. HasMember c.in_ok-least.least E × (E ⊆ members c.parts-parts.result)) (sets c.sort.new.environments)
listing c =
    let permuted = subst (λ (es : List Env). IsPermutation es c.sort.new.environments) c.deref_mut.ensures.value c.sort.ensures.permutation in
    sorted_listing c.order.result.now (members c.parts-parts.result) (parts_listed c.args.standing.now c.order.result.now (members c.parts-parts.result) c.order.ensures.value c.parts-parts.ensures)
    (λ E. HasMember c.in_ok-least.least E × (E ⊆ members c.parts-parts.result)) c.in_ok-found.found.items c.sort.new.environments (λ E h. h.1) c.in_ok-found.ensures permuted c.sort.ensures.sorted

pub returns-clause-conflicts : goal.returns-clause-conflicts
returns-clause-conflicts c = λ P parked r.
    let st = c.args.standing.now in
    let A : List Env → Type 0 = λ ys. AreConflicts (circuit_of P) (map (positions st) (sets ys)) in
    let B : List Env → Type 0 = λ ns. AreLeastOf (meets (members c.parts-parts.result) (sets ns)) c.in_ok-least.least in
    subst A (sym (sorted c))
    (listed_conflicts (stock c.args.engine.now.slots) st P parked r (members c.mask.result) (members c.parts-parts.result) c.order.result.now c.mask.ensures c.parts-parts.ensures c.order.ensures.value c.order.ensures.standing
    (sets c.in_ok-nogoods.nogoods.items) c.in_ok-nogoods.ensures c.in_ok-least.least (subst B c.deref.ensures.value c.in_ok-least.ensures) c.sort.new.environments (listing c))

pub returns-clause-inside : goal.returns-clause-inside
returns-clause-inside c =
    let A : List Env → Type 0 = λ ys. AreInParts c.args.standing.now (sets ys) in
    subst A (sym (sorted c)) (λ C h k is. subst (λ (L : Set ℕ). IsTrue (L k)) c.parts-parts.ensures ((((listing c).exact C).0 h).1 k is))
