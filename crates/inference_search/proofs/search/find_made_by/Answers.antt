use Rattle.std.proofs.Common.{subst, List, None}
use Rattle.inference_search.specs.declared.inferred.Inferred.{Inferred}
use Rattle.inference_search.specs.Choices.{Finds, IsMadeAt, IsDoneAt}
use Rattle.inference_search.proofs.Searching.{all_made_by, each_once}
use Rattle.inference_search.proofs.search.find_made_by.Goals as goal

pub returns-clause-exact : goal.returns-clause-exact
returns-clause-exact c =
    let P : List Inferred → Type 0 = λ old. Finds (IsMadeAt c.args.slots.now None c.args.slot) (IsDoneAt c.args.slots.now c.args.met.now None c.args.slot) old c.add_slot.new.found.items in
    all_made_by c.args.slots.now c.args.met.now c.args.slot c.add_slot.new.found.items (subst P c.new-found.ensures.items c.in_ok-add_slot.ensures)

pub returns-clause-once : goal.returns-clause-once
returns-clause-once c =
    let P : List Inferred → Type 0 = λ old. Finds (IsMadeAt c.args.slots.now None c.args.slot) (IsDoneAt c.args.slots.now c.args.met.now None c.args.slot) old c.add_slot.new.found.items in
    each_once c.args.slots.now c.args.met.now c.args.slot c.add_slot.new.found.items (subst P c.new-found.ensures.items c.in_ok-add_slot.ensures)
