use Rattle.std.proofs.Common.{ℕ, ◌<◌, length, subst, List, Some}
use Rattle.circuit_model.specs.declared.model.Fact.{Fact}
use Rattle.inference_search.specs.Choices.{Finds, IsMadeAtSome, IsDoneAt}
use Rattle.inference_search.proofs.Searching.{all_found, all_once}
use Rattle.inference_search.proofs.search.find_uses.Goals as goal

pub returns-clause-exact : goal.returns-clause-exact
returns-clause-exact c =
    let P : List Fact → Type 0 = λ from. Finds (IsMadeAtSome c.args.slots.now (Some c.args.fact)) (λ found. (slot : ℕ) → slot < length c.args.slots.now → IsDoneAt c.args.slots.now from (Some c.args.fact) slot found) c.in_ok-found.found.items c.add_near.new.found.items in
    all_found c.args.slots.now c.args.met.now c.in_ok-facts.facts.items c.args.fact c.in_ok-facts.ensures.fact c.in_ok-facts.ensures.others c.in_ok-found.found.items c.add_near.new.found.items
    c.in_ok-found.ensures (subst P c.deref.ensures.value c.in_ok-add_near.ensures)

pub returns-clause-once : goal.returns-clause-once
returns-clause-once c =
    let P : List Fact → Type 0 = λ from. Finds (IsMadeAtSome c.args.slots.now (Some c.args.fact)) (λ found. (slot : ℕ) → slot < length c.args.slots.now → IsDoneAt c.args.slots.now from (Some c.args.fact) slot found) c.in_ok-found.found.items c.add_near.new.found.items in
    all_once c.args.slots.now c.args.met.now c.in_ok-facts.facts.items c.args.fact c.in_ok-facts.ensures.fact c.in_ok-facts.ensures.others c.in_ok-found.found.items c.add_near.new.found.items
    c.in_ok-found.ensures (subst P c.deref.ensures.value c.in_ok-add_near.ensures)
