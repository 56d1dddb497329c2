use Rattle.std.proofs.Common.{◌≡◌, Some, ap, ◌∙◌}
use Rattle.std.proofs.lemmas.Result.{IfOk-weaker}
use Rattle.circuit_model.specs.declared.model.Assumption.TheVariants.{Part}
use Rattle.assumption_slots.specs.Slots.{stock}
use Rattle.inference_search.proofs.Finding.{Finds-map}
use Rattle.inference_search.proofs.Remembering.{made_at, done_at}
use Rattle.inference_search.proofs.components.add_slot.Goals as goal

pub returns-in-Some-Part : goal.returns-in-Some-Part
returns-in-Some-Part c =
    let s = c.args.search.now in
    let at : stock c.args.slots.now c.args.slot ≡ Some (Part c.in-Some-Part.part) = c.in-Some-Part.ensures ∙ ap Some c.in-Some-Part.field-0-is in
    IfOk-weaker _ _ _
    (λ x found. Finds-map _ _ _ _ _ _
    (made_at c.args.slots.now s.must c.args.slot c.in-Some-Part.part at)
    (done_at c.args.slots.now s.must c.args.slot c.in-Some-Part.part at s.facts.now c.add_part.new.found.items)
    found)
    c.add_part.ensures
