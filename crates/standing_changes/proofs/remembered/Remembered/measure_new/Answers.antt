use Rattle.std.proofs.Common.{◌≡◌, ◌∷◌, Some, inl, inr, refl}
use Rattle.circuit_model.specs.declared.model.Fact.{Fact}
use Rattle.circuit_model.specs.Present.{PresentView, reading_in, without_standing}
use Rattle.assumption_slots.specs.Slots.{stock}
use Rattle.standing_view.specs.View.{without_fact}
use Rattle.standing_changes.proofs.Alike.{never_there, taken_again}
use Rattle.standing_changes.proofs.Parked.{cell_stands, not_parked, remembered_somewhere, parked_alike}
use Rattle.standing_changes.proofs.Readings.{measured_there}
use Rattle.standing_changes.proofs.remembered.Remembered.measure_new.Goals as goal

pub is_overloaded-requires : goal.is_overloaded-requires
is_overloaded-requires g c =
    let before = c.requires.stands in
    record { present = c.args.present.now; parked = before.parked; stands = c.in-Ok.ensures.ok before.parked before.stands }

pub park-requires : goal.park-requires
park-requires g c =
    let before = c.requires.stands in
    let f : Fact = c.args.fact in
    let mid = c.assume_reading.new.self in
    cell_stands (stock mid.engine.slots) mid.standing c.args.present.now before.parked (c.in-Ok.ensures.ok before.parked before.stands) f.cell f.value (measured_there c.args.present.now f c.requires.free c.requires.listed)

pub forget_reading-requires : goal.forget_reading-requires
forget_reading-requires g c =
    let before = c.requires.stands in
    let f : Fact = c.args.fact in
    let after = c.park.new.self in
    remembered_somewhere (stock after.engine.slots) after.standing (without_standing f.cell c.args.present.now) (f ∷ before.parked)
    (c.park.ensures c.args.present.now f.value (measured_there c.args.present.now f c.requires.free c.requires.listed) before.parked (c.in-Ok.ensures.ok before.parked before.stands)) f (inr (inl refl))

pub returns-then-is_overloaded-clause-too_large : goal.returns-then-is_overloaded-clause-too_large
returns-then-is_overloaded-clause-too_large g c = let before = c.requires.stands in λ _. c.if-is_overloaded.ensures c.args.present.now before.parked (c.in-Ok.ensures.ok before.parked before.stands)

pub returns-then-is_overloaded-clause-err : goal.returns-then-is_overloaded-clause-err
returns-then-is_overloaded-clause-err g c =
    let f : Fact = c.args.fact in
    let front : PresentView = without_standing f.cell c.args.present.now in
    let old = c.args.self.now in
    let is : reading_in c.args.present.now.readings f.cell ≡ Some f.value = measured_there c.args.present.now f c.requires.free c.requires.listed in
    λ parked r.
    parked_alike c.forget_reading.new.self front (without_fact f (f ∷ parked)) parked (taken_again f parked (not_parked (stock old.engine.slots) old.standing front parked r f c.requires.new))
    (c.forget_reading.ensures front (f ∷ parked) (c.park.ensures c.args.present.now f.value is parked (c.in-Ok.ensures.ok parked r)) (inl refl))

pub returns-clause-ok : goal.returns-clause-ok
returns-clause-ok g c =
    let f : Fact = c.args.fact in
    let old = c.args.self.now in
    λ parked r.
    parked_alike c.assume_reading.new.self c.args.present.now parked (without_fact f parked)
    (never_there f parked (not_parked (stock old.engine.slots) old.standing (without_standing f.cell c.args.present.now) parked r f c.requires.new)) (c.in-Ok.ensures.ok parked r)

pub returns-clause-within : goal.returns-clause-within
returns-clause-within g c = let before = c.requires.stands in c.if-is_overloaded.ensures c.args.present.now before.parked (c.in-Ok.ensures.ok before.parked before.stands)
