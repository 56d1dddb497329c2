use Rattle.std.proofs.Common.{◌≡◌, ◌∷◌, Some, inl, inr, refl, sym, ◌∙◌}
use Rattle.std.proofs.lemmas.Bool.{both_ways}
use Rattle.assumption_slots.specs.Slots.{stock}
use Rattle.circuit_model.specs.Closure.{fact}
use Rattle.circuit_model.specs.declared.model.Fact.{Fact}
use Rattle.circuit_model.specs.Present.{PresentView, reading_in, without_standing}
use Rattle.standing_changes.specs.Remembered.{StandsWith}
use Rattle.standing_changes.proofs.Parked.{cell_stands, remembered_readings}
use Rattle.session_undo.specs.Remembering.{parked}
use Rattle.session_undo.proofs.Changing.{parked_still, parked_no_more}
use Rattle.session_undo.proofs.remembering.take_out.Goals as goal

pub park-requires : goal.park-requires
park-requires c = cell_stands (stock c.args.remembered.now.engine.slots) c.args.remembered.now.standing c.args.present.now (parked c.args.present.now c.args.history.now) c.requires.stands c.args.cell c.in-Some.value (sym c.reading_at.ensures ∙ c.in-Some.is)

pub forget_reading-requires : goal.forget_reading-requires
forget_reading-requires c =
    let s : PresentView = c.args.present.now in
    let at : reading_in s.readings c.args.cell ≡ Some c.in-Some.value = sym c.reading_at.ensures ∙ c.in-Some.is in
    let f : Fact = fact c.args.cell c.in-Some.value in
    (remembered_readings c.park.new.self (without_standing c.args.cell s) (f ∷ parked s c.args.history.now) (c.park.ensures s c.in-Some.value at (parked s c.args.history.now) c.requires.stands) f).1 (inr (inl refl))

pub returns-then-not-has_retracted : goal.returns-then-not-has_retracted
returns-then-not-has_retracted c =
    let s : PresentView = c.args.present.now in
    let at : reading_in s.readings c.args.cell ≡ Some c.in-Some.value = sym c.reading_at.ensures ∙ c.in-Some.is in
    let f : Fact = fact c.args.cell c.in-Some.value in
    let stands : StandsWith c.park.new.self (without_standing c.args.cell s) (f ∷ parked s c.args.history.now) = c.park.ensures s c.in-Some.value at (parked s c.args.history.now) c.requires.stands in
    parked_no_more c.forget_reading.new.self s c.args.history.now c.readings-readings.ensures.lawful c.args.cell c.in-Some.value at (λ out. both_ways c.has_retracted.result c.if-not-has_retracted.true (c.has_retracted.ensures.1 out))
    (c.forget_reading.ensures (without_standing c.args.cell s) (f ∷ parked s c.args.history.now) stands (inl refl))

pub returns-else-not-has_retracted : goal.returns-else-not-has_retracted
returns-else-not-has_retracted c =
    let s : PresentView = c.args.present.now in
    let at : reading_in s.readings c.args.cell ≡ Some c.in-Some.value = sym c.reading_at.ensures ∙ c.in-Some.is in
    parked_still c.park.new.self s c.args.history.now c.readings-readings.ensures.lawful c.args.cell c.in-Some.value at (c.has_retracted.ensures.0 c.if-not-has_retracted.false)
    (c.park.ensures s c.in-Some.value at (parked s c.args.history.now) c.requires.stands)
