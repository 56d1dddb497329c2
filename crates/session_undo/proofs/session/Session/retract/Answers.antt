use Rattle.std.proofs.Common.{◌≡◌, List, subst}
use Rattle.circuit_model.specs.Present.{PresentView}
use Rattle.netlist_text.specs.declared.requests.Change.{Change}
use Rattle.netlist_text.specs.declared.requests.Request.TheVariants as request
use Rattle.present_history.specs.declared.undoing.Undoing.{Undoing}
use Rattle.session_undo.specs.Presents.{State, after}
use Rattle.session_undo.specs.Remembering.{parked}
use Rattle.session_undo.specs.Serving.{IsStoppedBy, IsFree}
use Rattle.assumption_slots.specs.Slots.{stock}
use Rattle.standing_changes.proofs.Parked.{cell_stands}
use Rattle.session_undo.proofs.Made.{state_at, refused, of_retract, IsRetracted, retraction, retracted_noted, free_retracted, each_again, is_after}
use Rattle.session_undo.proofs.session.Session.retract.Goals as goal

pub returns-in-Err-place : goal.returns-in-Err-place
returns-in-Err-place c =
    let s : PresentView = c.self.inside.present in
    let t : PresentView = c.place.new.present in
    let us : List Undoing = c.self.inside.history in
    let change : Change = c.args.change.now in
    let P : State → Type 0 = λ old. IsStoppedBy old (request.Change change) c.stop_for.result × (state_at t us ≡ old) in
    subst P c.self.view_is (refused s t us change (of_retract s t us change c.args.net.now c.args.cycle c.requires) c.in-Err-place.misfit c.in-Err-place.ensures.placed c.stop_for.result c.stop_for.ensures)

pub park-requires : goal.park-requires
park-requires c =
    let s : PresentView = c.self.inside.present in
    let us : List Undoing = c.self.inside.history in
    let k : IsRetracted s c.place.new.present c.in-Ok.cell c.undoing_of-undoing.result = retraction s c.place.new.present us c.args.change.now c.args.net.now c.args.cycle c.requires c.in_default.ensures.placed c.undoing_of-undoing.result c.undoing_of-undoing.ensures.value c.in-Ok.cell c.in-Ok.ensures.cell.1 in
    cell_stands (stock c.self.inside.remembered.engine.slots) c.self.inside.remembered.standing s (parked s us) c.self.invariant.stands c.in-Ok.cell k.word k.at

pub note-requires : goal.note-requires
note-requires c =
    let s : PresentView = c.self.inside.present in
    let t : PresentView = c.place.new.present in
    let us : List Undoing = c.self.inside.history in
    let k : IsRetracted s t c.in-Ok.cell c.undoing_of-undoing.result = retraction s t us c.args.change.now c.args.net.now c.args.cycle c.requires c.in_default.ensures.placed c.undoing_of-undoing.result c.undoing_of-undoing.ensures.value c.in-Ok.cell c.in-Ok.ensures.cell.1 in
    record { stands = retracted_noted c.park.new.self s t us c.in-Ok.cell c.undoing_of-undoing.result c.undoing_of-undoing.ensures.lawful k (c.park.ensures s k.word k.at (parked s us) c.self.invariant.stands) }

pub invariant_of-self-2 : goal.invariant_of-self-2
invariant_of-self-2 c = record {
  stands = c.note.ensures.stands;
  each = each_again c.self.inside.present c.place.new.present c.self.inside.history c.note.new.history c.undoing_of-undoing.result c.args.change.now c.undoing_of-undoing.ensures.lawful
      (of_retract c.self.inside.present c.place.new.present c.self.inside.history c.args.change.now c.args.net.now c.args.cycle c.requires) c.in_default.ensures.placed c.undoing_of-undoing.ensures.value c.note.ensures.history c.self.invariant.each;
}

pub returns : goal.returns
returns c =
    let s : PresentView = c.self.inside.present in
    let t : PresentView = c.place.new.present in
    let us : List Undoing = c.self.inside.history in
    let change : Change = c.args.change.now in
    let P : State → Type 0 = λ old. IsFree old (request.Change change) × (state_at t c.note.new.history ≡ after old change) in
    subst P c.self.view_is (
      free_retracted s t us change c.args.net.now c.args.cycle c.requires c.in_default.ensures.placed,
      is_after s t us c.note.new.history c.undoing_of-undoing.result change c.undoing_of-undoing.ensures.lawful (of_retract s t us change c.args.net.now c.args.cycle c.requires) c.in_default.ensures.placed c.undoing_of-undoing.ensures.value c.note.ensures.history,
    )
