use Rattle.assumption_slots.specs.Slots.{stock}
use Rattle.environment_sets.proofs.Membership.{IsIn-slice_get}
use Rattle.standing_changes.proofs.Parked.{cell_parked}
use Rattle.standing_changes.proofs.remembered.Remembered.park.Goals as goal

pub park-requires : goal.park-requires
park-requires c = let at = c.slot_of_cell-slot.ensures in IsIn-slice_get c.args.self.now.standing.slots at.0 c.slot_of_cell-slot.result at.2

pub returns : goal.returns
returns c =
    let at = c.slot_of_cell-slot.ensures in
    λ s v is parked r. rw (c.park.ensures at.0 at.2) (cell_parked (stock c.args.self.now.engine.slots) c.args.self.now.standing s parked r c.args.cell v is at.0 at.1)
