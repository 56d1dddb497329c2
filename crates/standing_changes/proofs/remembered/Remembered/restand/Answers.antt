use Rattle.std.proofs.Common.{ℕ}
use Rattle.circuit_model.specs.Stock.{Stock}
use Rattle.assumption_slots.specs.Slots.{stock}
use Rattle.standing_view.specs.Standing.{Stands}
use Rattle.standing_view.proofs.Growing.{no_other}
use Rattle.standing_view.proofs.Parked.{a_parked_reading_stands}
use Rattle.standing_changes.proofs.Parked.{is_parked, free_cell}
use Rattle.standing_changes.proofs.remembered.Remembered.restand.Goals as goal

pub restore-requires-clause-free : goal.restore-requires-clause-free
restore-requires-clause-free c =
    let S : Stock ℕ = stock c.args.self.now.engine.slots in
    let st : Stands = c.args.self.now.standing in
    let some = c.requires.stands in
    no_other S st some.present some.parked some.stands c.args.fact (free_cell S st some.present some.parked some.stands c.args.fact.cell c.requires.unmeasured) c.in-Some.slot c.in-Some.ensures.slot

pub returns : goal.returns
returns c =
    let S : Stock ℕ = stock c.args.self.now.engine.slots in
    let st : Stands = c.args.self.now.standing in
    λ s free parked r.
    rw c.restore.ensures (a_parked_reading_stands S st s parked c.in-Some.slot c.args.fact r free (is_parked S st s parked r c.args.fact free c.in-Some.slot c.in-Some.ensures.slot) c.in-Some.ensures.slot)
