use Rattle.std.proofs.Common.{◌≡◌, ◌∷◌, List, inl, inr, refl, sym, subst}
use Rattle.assumption_slots.specs.Slots.{stock}
use Rattle.circuit_model.specs.declared.model.Fact.{Fact}
use Rattle.circuit_model.specs.Present.{PresentView, with_standing}
use Rattle.present_history.specs.declared.undoing.Undoing.{Undoing}
use Rattle.present_history.specs.declared.undoing.Undoing.TheVariants as back
use Rattle.present_history.specs.Undoing.{MayUndo, MayStand, undone}
use Rattle.standing_view.specs.View.{without_fact}
use Rattle.standing_changes.specs.Remembered.{StandsWith, IsRemembered}
use Rattle.standing_changes.specs.declared.remembered.Remembered.{Remembered}
use Rattle.standing_changes.proofs.Parked.{parked_alike, remembered_readings, cell_free}
use Rattle.session_undo.specs.Remembering.{parked}
use Rattle.session_undo.proofs.Changing.{moved_back, takes_nothing, part_goes}
use Rattle.session_undo.proofs.Parked.{is_parked, not_before, stands_again_too}
use Rattle.session_undo.proofs.remembering.step_back.Goals as goal

module _ (r : Remembered) (s : PresentView) (us : List Undoing) (u : Undoing) (f : Fact) (is : u ≡ back.Retracted f) (may : MayUndo u s) (h : StandsWith r s (parked s (u ∷ us))) where
  may_stand : MayStand s f
  may_stand = let P : Undoing → Type 0 = λ x. MayUndo x s in subst P is may

  with_it : StandsWith r s (parked s (back.Retracted f ∷ us))
  with_it = let P : Undoing → Type 0 = λ x. StandsWith r s (parked s (x ∷ us)) in subst P is h

  there : IsRemembered r f
  there = (remembered_readings r s (parked s (back.Retracted f ∷ us)) with_it f).1 (inr (is_parked s (back.Retracted f ∷ us) f (record { out = inl refl; gone = not_before s f may_stand.free })))

  after : (new : Remembered) → StandsWith new (with_standing f s) (without_fact f (parked s (back.Retracted f ∷ us))) → StandsWith new (undone u s) (parked (undone u s) us)
  after new k =
      let P : Undoing → Type 0 = λ x. StandsWith new (undone x s) (parked (undone x s) us) in
      subst P (sym is) (parked_alike new (with_standing f s) (without_fact f (parked s (back.Retracted f ∷ us))) (parked (with_standing f s) us) (stands_again_too s f may_stand.free us) k)

pub restand-requires-clause-remembered : goal.restand-requires-clause-remembered
restand-requires-clause-remembered c = there c.args.remembered.now c.args.present.now c.args.history.now c.args.undoing c.in-Retracted.fact c.in-Retracted.is c.requires.may c.requires.stands

pub restand-requires-clause-unmeasured : goal.restand-requires-clause-unmeasured
restand-requires-clause-unmeasured c =
    cell_free (stock c.args.remembered.now.engine.slots) c.args.remembered.now.standing c.args.present.now (parked c.args.present.now (c.args.undoing ∷ c.args.history.now)) c.requires.stands c.in-Retracted.fact.cell
    (may_stand c.args.remembered.now c.args.present.now c.args.history.now c.args.undoing c.in-Retracted.fact c.in-Retracted.is c.requires.may c.requires.stands).free

pub returns-in-Retracted : goal.returns-in-Retracted
returns-in-Retracted c =
    let free = (may_stand c.args.remembered.now c.args.present.now c.args.history.now c.args.undoing c.in-Retracted.fact c.in-Retracted.is c.requires.may c.requires.stands).free in
    after c.args.remembered.now c.args.present.now c.args.history.now c.args.undoing c.in-Retracted.fact c.in-Retracted.is c.requires.may c.requires.stands c.restand.new.self
    (c.restand.ensures c.args.present.now free (parked c.args.present.now (back.Retracted c.in-Retracted.fact ∷ c.args.history.now))
    (with_it c.args.remembered.now c.args.present.now c.args.history.now c.args.undoing c.in-Retracted.fact c.in-Retracted.is c.requires.may c.requires.stands))

pub returns-in-Cycles : goal.returns-in-Cycles
returns-in-Cycles c = moved_back c.args.remembered.now c.args.present.now (undone c.args.undoing c.args.present.now) c.args.history.now c.args.undoing (takes_nothing c.args.present.now c.args.undoing c.in-Cycles.is) c.requires.stands

pub returns-in-Part : goal.returns-in-Part
returns-in-Part c = part_goes c.args.remembered.now c.drop_part.new.self c.args.present.now c.args.history.now c.args.undoing c.in-Part.is (c.drop_part.ensures c.args.present.now) c.requires.stands
