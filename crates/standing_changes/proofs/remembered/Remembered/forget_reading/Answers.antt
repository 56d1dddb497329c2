use Rattle.assumption_slots.specs.Slots.{stock}
use Rattle.circuit_model.specs.declared.model.Assumption.TheVariants.{Reading}
use Rattle.standing_view.proofs.Parked.{a_parked_reading_is_forgotten}
use Rattle.standing_changes.proofs.remembered.Remembered.forget_reading.Goals as goal

pub returns : goal.returns
returns c =
    λ s parked r there.
    a_parked_reading_is_forgotten (stock c.args.self.now.engine.slots) (stock c.forget.new.self.slots) c.args.self.now.standing s parked c.in-Some.slot c.args.fact r there (c.forget.ensures.forgets (Reading c.args.fact) c.in-Some.ensures.slot)
