use Rattle.std.proofs.Common.{ℕ, ◌<◌, length, sym, subst}
use Rattle.circuit_model.specs.declared.limits.TheConstants.{MOST_READINGS}
use Rattle.circuit_model.specs.Present.{PresentView, without_standing}
use Rattle.circuit_model.specs.Stock.{Stock}
use Rattle.circuit_model.proofs.Readings.{IsLawful-without_standing}
use Rattle.environment_sets.specs.Lists.{IsIn}
use Rattle.assumption_slots.specs.Slots.{stock}
use Rattle.standing_view.specs.Standing.{Stands, order_of, with_reading_at}
use Rattle.standing_view.specs.View.{StandsFor}
use Rattle.standing_view.proofs.Named.{free_slots_do_not_stand}
use Rattle.standing_view.proofs.Room.{some_slot_is_free}
use Rattle.standing_view.proofs.Growing.{one_measurement_more}
use Rattle.standing_changes.proofs.Parked.{cell_free, not_parked}
use Rattle.standing_changes.proofs.Readings.{one_fewer}
use Rattle.standing_changes.proofs.remembered.Remembered.assume_reading.Goals as goal

pub assume-requires : goal.assume-requires
assume-requires g c =
    let before : PresentView = without_standing c.args.fact.cell c.args.present.now in
    some_slot_is_free (stock c.args.self.now.engine.slots) c.args.self.now.standing before c.requires.stands.parked c.requires.stands.stands
    (IsLawful-without_standing c.args.fact.cell c.args.present.now c.readings-readings.ensures.lawful) c.requires.stands.few

pub restore-requires-clause-free : goal.restore-requires-clause-free
restore-requires-clause-free g c =
    let before : PresentView = without_standing c.args.fact.cell c.args.present.now in
    let Out : Stands → Type 0 = λ st. IsIn (order_of st) c.in_ok-slot.slot → ⊥ in
    subst Out (sym c.assume.ensures.standing) (free_slots_do_not_stand (stock c.args.self.now.engine.slots) c.args.self.now.standing before c.requires.stands.parked c.requires.stands.stands c.in_ok-slot.slot c.in_ok-slot.ensures.ok.free)

pub restore-requires-clause-unmeasured : goal.restore-requires-clause-unmeasured
restore-requires-clause-unmeasured g c =
    let before : PresentView = without_standing c.args.fact.cell c.args.present.now in
    let Out : Stands → Type 0 = λ st. IsIn st.cells c.args.fact.cell → ⊥ in
    subst Out (sym c.assume.ensures.standing) (cell_free (stock c.args.self.now.engine.slots) c.args.self.now.standing before c.requires.stands.parked c.requires.stands.stands c.args.fact.cell c.requires.free)

pub restore-requires-clause-room : goal.restore-requires-clause-room
restore-requires-clause-room g c =
    let Roomy : Stands → Type 0 = λ st. length st.cells < MOST_READINGS in
    subst Roomy (sym c.assume.ensures.standing)
    (one_fewer c.args.present.now c.args.fact c.requires.free c.requires.listed c.readings-readings.ensures.lawful.readings c.args.self.now.standing.cells c.requires.stands.stands.measured)

pub returns-clause-ok : goal.returns-clause-ok
returns-clause-ok g c =
    let S : Stock ℕ = stock c.args.self.now.engine.slots in
    let R : Stock ℕ = stock c.assume.new.self.engine.slots in
    let st : Stands = c.args.self.now.standing in
    let slot : ℕ = c.in_ok-slot.slot in
    let before : PresentView = without_standing c.args.fact.cell c.args.present.now in
    λ parked r.
    let more = one_measurement_more S R st before parked slot c.args.fact r c.requires.free (not_parked S st before parked r c.args.fact c.requires.new) c.in_ok-slot.ensures.ok in
    let Q : PresentView → Type 0 = λ s. StandsFor R (with_reading_at slot c.args.fact.cell st) s parked in
    let T : Stands → Type 0 = λ st. StandsFor R (with_reading_at slot c.args.fact.cell st) c.args.present.now parked in
    rw c.restore.ensures (subst T (sym c.assume.ensures.standing) (subst Q c.requires.listed more))
