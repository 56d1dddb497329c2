use Rattle.std.proofs.Common.{◌≡◌, ◌∷◌, List, sym, subst}
use Rattle.circuit_model.specs.Present.{PresentView}
use Rattle.netlist_text.specs.declared.requests.Change.{Change}
use Rattle.netlist_text.specs.declared.requests.Request.TheVariants as request
use Rattle.present_history.specs.declared.undoing.Undoing.{Undoing}
use Rattle.standing_changes.specs.Remembered.{StandsWith}
use Rattle.session_undo.specs.Presents.{State, after}
use Rattle.session_undo.specs.Remembering.{parked}
use Rattle.session_undo.specs.Serving.{IsStoppedBy, IsFree}
use Rattle.session_undo.proofs.Changing.{stands_alone}
use Rattle.session_undo.proofs.Made.{state_at, refused, each_again, is_after}
use Rattle.session_undo.proofs.Refusing.{free_of, no_late}
use Rattle.session_undo.proofs.session.Session.change_alone.Goals as goal

pub returns-in-Err : goal.returns-in-Err
returns-in-Err c =
    let s : PresentView = c.self.inside.present in
    let us : List Undoing = c.self.inside.history in
    let P : State → Type 0 = λ old. IsStoppedBy old (request.Change c.args.change.now) c.stop_for.result × (state_at c.place.new.present us ≡ old) in
    subst P c.self.view_is (refused s c.place.new.present us c.args.change.now c.requires.of_present c.in-Err.misfit c.in-Err.ensures.placed c.stop_for.result c.stop_for.ensures)

pub note-requires : goal.note-requires
note-requires c =
    let s : PresentView = c.self.inside.present in
    let t : PresentView = c.place.new.present in
    let us : List Undoing = c.self.inside.history in
    let P : Undoing → Type 0 = λ u. StandsWith c.self.inside.remembered t (parked t (u ∷ us)) in
    record { stands = subst P (sym c.undoing_of-undoing.ensures.value) (stands_alone c.self.inside.remembered s t us c.args.change.now c.requires.alone c.in_default.ensures.placed.made c.self.invariant.stands) }

pub invariant_of-self-2 : goal.invariant_of-self-2
invariant_of-self-2 c = record {
  stands = c.note.ensures.stands;
  each = each_again c.self.inside.present c.place.new.present c.self.inside.history c.note.new.history c.undoing_of-undoing.result c.args.change.now c.undoing_of-undoing.ensures.lawful c.requires.of_present c.in_default.ensures.placed c.undoing_of-undoing.ensures.value c.note.ensures.history c.self.invariant.each;
}

pub returns : goal.returns
returns c =
    let s : PresentView = c.self.inside.present in
    let us : List Undoing = c.self.inside.history in
    let change : Change = c.args.change.now in
    let P : State → Type 0 = λ old. IsFree old (request.Change change) × (state_at c.place.new.present c.note.new.history ≡ after old change) in
    subst P c.self.view_is (
      record { early = free_of (state_at s us) change c.requires.of_present c.in_default.ensures.placed.free; late = no_late (state_at s us) change c.requires.alone },
      is_after s c.place.new.present us c.note.new.history c.undoing_of-undoing.result change c.undoing_of-undoing.ensures.lawful c.requires.of_present c.in_default.ensures.placed c.undoing_of-undoing.ensures.value c.note.ensures.history,
    )
