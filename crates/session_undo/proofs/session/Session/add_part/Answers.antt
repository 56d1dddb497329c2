use Rattle.std.proofs.Common.{◌≡◌, ◌≤◌, ℕ, ◌∷◌, List, Err, ap, sym, subst, ◌∙◌}
use Rattle.circuit_model.specs.Present.{PresentView}
use Rattle.netlist_text.specs.declared.requests.Change.{Change}
use Rattle.netlist_text.specs.declared.requests.Request.TheVariants as request
use Rattle.present_history.specs.declared.undoing.Undoing.{Undoing}
use Rattle.standing_changes.specs.Remembered.{StandsWith, StandsRoomy}
use Rattle.standing_changes.specs.declared.remembered.Remembered.{Remembered}
use Rattle.standing_changes.specs.declared.remembered.Stop as standing
use Rattle.circuit_model.specs.declared.limits.TheConstants.{MOST_EARLIER}
use Rattle.session_undo.specs.Presents.{State, after}
use Rattle.session_undo.specs.Remembering.{parked, IsKept}
use Rattle.session_undo.specs.Serving.{IsStoppedBy, IsFree}
use Rattle.session_undo.specs.declared.refusals.Stop.{Stop}
use Rattle.circuit_model.specs.declared.model.Fact.{Fact}
use Rattle.session_undo.proofs.Changing.{adding_parked}
use Rattle.session_undo.proofs.Made.{state_at, refused, roomy, without_it, stopped_adding, free_adding, each_again, is_after}
use Rattle.session_undo.proofs.session.Session.add_part.Goals as goal

pub returns-in-Err : goal.returns-in-Err
returns-in-Err g c =
    let s : PresentView = c.self.inside.present in
    let us : List Undoing = c.self.inside.history in
    let P : State → Type 0 = λ old. IsStoppedBy old (request.Change c.args.change.now) c.stop_for.result × (state_at c.place.new.present us ≡ old) in
    subst P c.self.view_is (refused s c.place.new.present us c.args.change.now c.requires.of_present c.in-Err.misfit c.in-Err.ensures.placed c.stop_for.result c.stop_for.ensures)

pub add_part-requires-clause-unused : goal.add_part-requires-clause-unused
add_part-requires-clause-unused g c = c.in_default.ensures.unused c.requires.adds

pub drop_part-requires-clause-unused : goal.drop_part-requires-clause-unused
drop_part-requires-clause-unused g c = c.in_default.ensures.unused c.requires.adds

pub add_part-requires-clause-stands : goal.add_part-requires-clause-stands
add_part-requires-clause-stands g c =
    let s : PresentView = c.self.inside.present in
    let r : Remembered = c.self.inside.remembered in
    let back = without_it s c.place.new.present c.args.change.now c.undoing_of-undoing.ensures.lawful c.requires.of_present c.requires.adds c.in_default.ensures.placed in
    subst (StandsRoomy r) (sym back) (roomy r s c.self.inside.history (let P : ℕ → Type 0 = λ n. n ≤ MOST_EARLIER in subst P c.len-changes.ensures.value c.len-changes.ensures.most) c.self.invariant.stands)

pub invariant_of-self-in-Err-add_part : goal.invariant_of-self-in-Err-add_part
invariant_of-self-in-Err-add_part g c =
    let s : PresentView = c.self.inside.present in
    let us : List Undoing = c.self.inside.history in
    let new : Remembered = c.add_part.new.self in
    let back = without_it s c.place.new.present c.args.change.now c.undoing_of-undoing.ensures.lawful c.requires.of_present c.requires.adds c.in_default.ensures.placed in
    let P : PresentView → Type 0 = λ x. (parked : List Fact) → StandsWith c.self.inside.remembered x parked → StandsWith new x parked in
    let Q : PresentView → Type 0 = λ x. IsKept x us new in
    subst Q (sym (c.drop_part.ensures ∙ back)) (record { stands = subst P back c.in-Err-add_part.ensures.err (parked s us) c.self.invariant.stands; each = c.self.invariant.each })

pub returns-in-Err-add_part : goal.returns-in-Err-add_part
returns-in-Err-add_part g c =
    let s : PresentView = c.self.inside.present in
    let t : PresentView = c.place.new.present in
    let us : List Undoing = c.self.inside.history in
    let change : Change = c.args.change.now in
    let back = without_it s t change c.undoing_of-undoing.ensures.lawful c.requires.of_present c.requires.adds c.in_default.ensures.placed in
    let P : State → Type 0 = λ old. IsStoppedBy old (request.Change change) c.stop_of.result × (state_at c.drop_part.new.self us ≡ old) in
    let Q : Stop → Type 0 = λ a. IsStoppedBy (state_at s us) (request.Change change) a in
    subst P c.self.view_is (
      subst Q (sym c.stop_of.ensures) (stopped_adding s t us change c.requires.of_present c.requires.adds c.in_default.ensures.placed c.in-Err-add_part.stop (λ e. c.in-Err-add_part.ensures.too_large (ap (λ (a : standing.Stop). Err a) e))),
      ap (λ (x : PresentView). state_at x us) (c.drop_part.ensures ∙ back),
    )

pub note-requires : goal.note-requires
note-requires g c =
    let s : PresentView = c.self.inside.present in
    let t : PresentView = c.place.new.present in
    let us : List Undoing = c.self.inside.history in
    let new : Remembered = c.add_part.new.self in
    let change : Change = c.args.change.now in
    let back = without_it s t change c.undoing_of-undoing.ensures.lawful c.requires.of_present c.requires.adds c.in_default.ensures.placed in
    let P : PresentView → Type 0 = λ x. (parked : List Fact) → StandsWith c.self.inside.remembered x parked → StandsWith new t parked in
    let Q : Undoing → Type 0 = λ u. StandsWith new t (parked t (u ∷ us)) in
    let R : List Fact → Type 0 = λ fs. StandsWith new t fs in
    record { stands = subst Q (sym c.undoing_of-undoing.ensures.value) (subst R (sym (adding_parked s t us change c.requires.adds c.in_default.ensures.placed.made)) (subst P back c.in_default-add_part.ensures.ok (parked s us) c.self.invariant.stands)) }

pub invariant_of-self-2 : goal.invariant_of-self-2
invariant_of-self-2 g c = record {
  stands = c.note.ensures.stands;
  each = each_again c.self.inside.present c.place.new.present c.self.inside.history c.note.new.history c.undoing_of-undoing.result c.args.change.now c.undoing_of-undoing.ensures.lawful c.requires.of_present c.in_default.ensures.placed c.undoing_of-undoing.ensures.value c.note.ensures.history c.self.invariant.each;
}

pub returns : goal.returns
returns g c =
    let s : PresentView = c.self.inside.present in
    let t : PresentView = c.place.new.present in
    let us : List Undoing = c.self.inside.history in
    let change : Change = c.args.change.now in
    let P : State → Type 0 = λ old. IsFree old (request.Change change) × (state_at t c.note.new.history ≡ after old change) in
    subst P c.self.view_is (
      free_adding s t us change c.requires.of_present c.requires.adds c.in_default.ensures.placed c.in_default-add_part.ensures.within,
      is_after s t us c.note.new.history c.undoing_of-undoing.result change c.undoing_of-undoing.ensures.lawful c.requires.of_present c.in_default.ensures.placed c.undoing_of-undoing.ensures.value c.note.ensures.history,
    )
