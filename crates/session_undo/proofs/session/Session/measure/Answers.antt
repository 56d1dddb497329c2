use Rattle.std.proofs.Common.{◌≡◌, ◌≤◌, ℕ, List, Err, sym, ap, subst, ◌∙◌}
use Rattle.circuit_model.specs.Closure.{fact}
use Rattle.circuit_model.specs.declared.model.Fact.{Fact}
use Rattle.circuit_model.specs.Present.{PresentView}
use Rattle.netlist_text.specs.declared.requests.Change.{Change}
use Rattle.netlist_text.specs.declared.requests.Request.TheVariants as request
use Rattle.present_history.specs.declared.undoing.Undoing.{Undoing}
use Rattle.standing_changes.specs.declared.remembered.Remembered.{Remembered}
use Rattle.standing_changes.specs.declared.remembered.Stop as standing
use Rattle.circuit_model.specs.declared.limits.TheConstants.{MOST_EARLIER}
use Rattle.session_undo.specs.Presents.{State, after}
use Rattle.session_undo.specs.Remembering.{IsKept}
use Rattle.session_undo.specs.Serving.{IsStoppedBy, IsFree}
use Rattle.session_undo.specs.declared.refusals.Stop.{Stop}
use Rattle.session_undo.proofs.Made.{state_at, refused, IsMeasured, before_it, free_before, listed_again, measured_there, roomy_before, without_reading_again, with_reading_now, of_measure, measured, measured_noted, free_measured, stopped_measured, each_again, is_after}
use Rattle.session_undo.proofs.session.Session.measure.Goals as goal

pub returns-in-Err-place : goal.returns-in-Err-place
returns-in-Err-place g c =
    let s : PresentView = c.self.inside.present in
    let t : PresentView = c.place.new.present in
    let us : List Undoing = c.self.inside.history in
    let change : Change = c.args.change.now in
    let P : State → Type 0 = λ old. IsStoppedBy old (request.Change change) c.stop_for.result × (state_at t us ≡ old) in
    subst P c.self.view_is (refused s t us change (of_measure s t us change c.args.net.now c.args.cycle c.args.value c.requires) c.in-Err-place.misfit c.in-Err-place.ensures.placed c.stop_for.result c.stop_for.ensures)

pub measure-requires-clause-free : goal.measure-requires-clause-free
measure-requires-clause-free g c =
    let s : PresentView = c.self.inside.present in
    let t : PresentView = c.place.new.present in
    free_before s t (fact c.in-Ok.cell c.args.value) (measured s t c.self.inside.history c.args.change.now c.args.net.now c.args.cycle c.args.value c.requires c.in_default.ensures.placed c.in-Ok.cell c.in-Ok.ensures.cell.1)

pub measure-requires-clause-listed : goal.measure-requires-clause-listed
measure-requires-clause-listed g c =
    let s : PresentView = c.self.inside.present in
    let t : PresentView = c.place.new.present in
    listed_again s t (fact c.in-Ok.cell c.args.value) (measured s t c.self.inside.history c.args.change.now c.args.net.now c.args.cycle c.args.value c.requires c.in_default.ensures.placed c.in-Ok.cell c.in-Ok.ensures.cell.1)

pub measure-requires-clause-stands : goal.measure-requires-clause-stands
measure-requires-clause-stands g c =
    let s : PresentView = c.self.inside.present in
    let t : PresentView = c.place.new.present in
    let us : List Undoing = c.self.inside.history in
    roomy_before s t (fact c.in-Ok.cell c.args.value) (measured s t us c.args.change.now c.args.net.now c.args.cycle c.args.value c.requires c.in_default.ensures.placed c.in-Ok.cell c.in-Ok.ensures.cell.1)
    c.self.inside.remembered us (let P : ℕ → Type 0 = λ n. n ≤ MOST_EARLIER in subst P c.len-changes.ensures.value c.len-changes.ensures.most) c.self.invariant.stands

pub clear_reading-requires : goal.clear_reading-requires
clear_reading-requires g c =
    let s : PresentView = c.self.inside.present in
    let t : PresentView = c.place.new.present in
    measured_there s t (fact c.in-Ok.cell c.args.value) (measured s t c.self.inside.history c.args.change.now c.args.net.now c.args.cycle c.args.value c.requires c.in_default.ensures.placed c.in-Ok.cell c.in-Ok.ensures.cell.1)

pub invariant_of-self-in-Err-measure : goal.invariant_of-self-in-Err-measure
invariant_of-self-in-Err-measure g c =
    let s : PresentView = c.self.inside.present in
    let t : PresentView = c.place.new.present in
    let us : List Undoing = c.self.inside.history in
    let new : Remembered = c.measure.new.self in
    let f : Fact = fact c.in-Ok.cell c.args.value in
    let m : IsMeasured s t f = measured s t us c.args.change.now c.args.net.now c.args.cycle c.args.value c.requires c.in_default.ensures.placed c.in-Ok.cell c.in-Ok.ensures.cell.1 in
    let Q : PresentView → Type 0 = λ x. IsKept x us new in
    subst Q (sym (c.clear_reading.ensures ∙ before_it s t f m)) (record { stands = without_reading_again s t f m c.self.inside.remembered new us c.in-Err-measure.ensures.err c.self.invariant.stands; each = c.self.invariant.each })

pub returns-in-Err-measure : goal.returns-in-Err-measure
returns-in-Err-measure g c =
    let s : PresentView = c.self.inside.present in
    let t : PresentView = c.place.new.present in
    let us : List Undoing = c.self.inside.history in
    let change : Change = c.args.change.now in
    let f : Fact = fact c.in-Ok.cell c.args.value in
    let m : IsMeasured s t f = measured s t us change c.args.net.now c.args.cycle c.args.value c.requires c.in_default.ensures.placed c.in-Ok.cell c.in-Ok.ensures.cell.1 in
    let P : State → Type 0 = λ old. IsStoppedBy old (request.Change change) c.stop_of.result × (state_at c.clear_reading.new.self us ≡ old) in
    let Q : Stop → Type 0 = λ a. IsStoppedBy (state_at s us) (request.Change change) a in
    subst P c.self.view_is (
      subst Q (sym c.stop_of.ensures) (stopped_measured s t us change c.args.net.now c.args.cycle c.args.value c.requires c.in_default.ensures.placed c.self.inside.remembered c.undoing_of-undoing.ensures.lawful c.self.invariant c.in-Err-measure.stop
          (λ e. c.in-Err-measure.ensures.too_large (ap (λ (a : standing.Stop). Err a) e)) c.in-Ok.cell c.in-Ok.ensures.cell.1 (λ e k. c.in-Err-measure.ensures.no_memory (ap (λ (a : standing.Stop). Err a) e) k.0 k.1)),
      ap (λ (x : PresentView). state_at x us) (c.clear_reading.ensures ∙ before_it s t f m),
    )

pub note-requires : goal.note-requires
note-requires g c =
    let s : PresentView = c.self.inside.present in
    let t : PresentView = c.place.new.present in
    let us : List Undoing = c.self.inside.history in
    let change : Change = c.args.change.now in
    let f : Fact = fact c.in-Ok.cell c.args.value in
    let m : IsMeasured s t f = measured s t us change c.args.net.now c.args.cycle c.args.value c.requires c.in_default.ensures.placed c.in-Ok.cell c.in-Ok.ensures.cell.1 in
    record {
      stands = measured_noted s t us change c.args.net.now c.args.cycle c.args.value c.requires c.in_default.ensures.placed c.measure.new.self c.undoing_of-undoing.result c.undoing_of-undoing.ensures.value c.in-Ok.cell c.in-Ok.ensures.cell.1
          (with_reading_now s t f m c.self.inside.remembered c.measure.new.self us c.in_default-measure.ensures.ok c.self.invariant.stands);
    }

pub invariant_of-self-2 : goal.invariant_of-self-2
invariant_of-self-2 g c = record {
  stands = c.note.ensures.stands;
  each = each_again c.self.inside.present c.place.new.present c.self.inside.history c.note.new.history c.undoing_of-undoing.result c.args.change.now c.undoing_of-undoing.ensures.lawful
      (of_measure c.self.inside.present c.place.new.present c.self.inside.history c.args.change.now c.args.net.now c.args.cycle c.args.value c.requires) c.in_default.ensures.placed c.undoing_of-undoing.ensures.value c.note.ensures.history c.self.invariant.each;
}

pub returns : goal.returns
returns g c =
    let s : PresentView = c.self.inside.present in
    let t : PresentView = c.place.new.present in
    let us : List Undoing = c.self.inside.history in
    let change : Change = c.args.change.now in
    let P : State → Type 0 = λ old. IsFree old (request.Change change) × (state_at t c.note.new.history ≡ after old change) in
    subst P c.self.view_is (
      free_measured s t us change c.args.net.now c.args.cycle c.args.value c.requires c.in_default.ensures.placed c.in_default-measure.ensures.within,
      is_after s t us c.note.new.history c.undoing_of-undoing.result change c.undoing_of-undoing.ensures.lawful (of_measure s t us change c.args.net.now c.args.cycle c.args.value c.requires) c.in_default.ensures.placed c.undoing_of-undoing.ensures.value c.note.ensures.history,
    )
