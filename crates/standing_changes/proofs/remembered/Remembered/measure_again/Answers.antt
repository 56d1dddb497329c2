use Rattle.std.proofs.Common.{◌≡◌, ◌∷◌, Some}
use Rattle.circuit_model.specs.declared.model.Fact.{Fact}
use Rattle.circuit_model.specs.Present.{PresentView, reading_in, without_standing}
use Rattle.assumption_slots.specs.Slots.{stock}
use Rattle.standing_view.specs.View.{without_fact}
use Rattle.standing_changes.specs.Remembered.{Leads}
use Rattle.standing_changes.proofs.Again.{leads_to}
use Rattle.standing_changes.proofs.Alike.{put_again}
use Rattle.standing_changes.proofs.Parked.{cell_free, cell_stands, is_parked, parked_alike}
use Rattle.standing_changes.proofs.Readings.{measured_there, one_fewer}
use Rattle.standing_changes.proofs.remembered.Remembered.measure_again.Goals as goal

pub restand-requires-clause-unmeasured : goal.restand-requires-clause-unmeasured
restand-requires-clause-unmeasured c =
    let before = c.requires.stands in
    let old = c.args.self.now in
    cell_free (stock old.engine.slots) old.standing (without_standing c.args.fact.cell c.args.present.now) before.parked before.stands c.args.fact.cell c.requires.free

pub restand-requires-clause-room : goal.restand-requires-clause-room
restand-requires-clause-room c =
    one_fewer c.args.present.now c.args.fact c.requires.free c.requires.listed c.readings-readings.ensures.lawful.readings c.args.self.now.standing.cells c.requires.stands.stands.measured

pub is_overloaded-requires : goal.is_overloaded-requires
is_overloaded-requires c =
    let before = c.requires.stands in
    record {
      present = c.args.present.now;
      parked = without_fact c.args.fact before.parked;
      stands = leads_to c.args.self.now c.restand.new.self c.args.present.now c.args.fact c.requires.free c.requires.listed c.restand.ensures before.parked before.stands;
    }

pub park-requires : goal.park-requires
park-requires c =
    let before = c.requires.stands in
    let f : Fact = c.args.fact in
    let mid = c.restand.new.self in
    cell_stands (stock mid.engine.slots) mid.standing c.args.present.now (without_fact f before.parked)
    (leads_to c.args.self.now mid c.args.present.now f c.requires.free c.requires.listed c.restand.ensures before.parked before.stands) f.cell f.value (measured_there c.args.present.now f c.requires.free c.requires.listed)

pub returns-then-is_overloaded-clause-too_large : goal.returns-then-is_overloaded-clause-too_large
returns-then-is_overloaded-clause-too_large c =
    let before = c.requires.stands in
    let f : Fact = c.args.fact in
    c.if-is_overloaded.ensures c.args.present.now (without_fact f before.parked) (leads_to c.args.self.now c.restand.new.self c.args.present.now f c.requires.free c.requires.listed c.restand.ensures before.parked before.stands)

pub returns-then-is_overloaded-clause-err : goal.returns-then-is_overloaded-clause-err
returns-then-is_overloaded-clause-err c =
    let f : Fact = c.args.fact in
    let front : PresentView = without_standing f.cell c.args.present.now in
    let old = c.args.self.now in
    let is : reading_in c.args.present.now.readings f.cell ≡ Some f.value = measured_there c.args.present.now f c.requires.free c.requires.listed in
    let leads : Leads old c.restand.new.self front c.args.present.now (without_fact f) = leads_to old c.restand.new.self c.args.present.now f c.requires.free c.requires.listed c.restand.ensures in
    λ parked r.
    parked_alike c.park.new.self front (f ∷ without_fact f parked) parked (put_again f parked (is_parked (stock old.engine.slots) old.standing front parked r f c.requires.free c.requires.remembered.0 c.requires.remembered.1))
    (c.park.ensures c.args.present.now f.value is (without_fact f parked) (leads parked r))

pub returns-clause-ok : goal.returns-clause-ok
returns-clause-ok c = leads_to c.args.self.now c.restand.new.self c.args.present.now c.args.fact c.requires.free c.requires.listed c.restand.ensures

pub returns-clause-within : goal.returns-clause-within
returns-clause-within c =
    let before = c.requires.stands in
    let f : Fact = c.args.fact in
    c.if-is_overloaded.ensures c.args.present.now (without_fact f before.parked) (leads_to c.args.self.now c.restand.new.self c.args.present.now f c.requires.free c.requires.listed c.restand.ensures before.parked before.stands)
