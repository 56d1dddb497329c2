use Rattle.environment_sets.specs.Members.{members}
use Rattle.inference_search.proofs.Adding.{near_begins, near_more, near_ends}
use Rattle.inference_search.proofs.near.cells_near.Goals as goal

pub loop-slot-init : goal.loop-slot-init
loop-slot-init c = near_begins c.args.slots.now c.args.cell (members c.near-near.result.now) c.new-cells.result.items c.add_cell.new.cells.items c.new-cells.ensures.items c.in_ok-add_cell.ensures

pub loop-slot-preserved : goal.loop-slot-preserved
loop-slot-preserved c =
    near_more c.args.slots.now c.args.cell (members c.near-near.result.now) c.loop-slot.next c.in-Some.slot c.loop-slot.cells.items c.add_joined_at.new.cells.items c.in-Some.ensures.next c.loop-slot.invariant c.in_ok-add_joined_at.ensures

pub returns : goal.returns
returns c = near_ends c.args.slots.now c.args.cell (members c.near-near.result.now) c.loop-slot.next c.loop-slot.cells.items c.in_default.ensures.next c.near-near.ensures.complete c.loop-slot.invariant
