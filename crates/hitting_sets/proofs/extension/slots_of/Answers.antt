use Rattle.environment_sets.specs.declared.environment.TheConstants.{SLOTS}
use Rattle.environment_sets.specs.Members.{members}
use Rattle.environment_sets.proofs.Slots.{slots_are_below}
use Rattle.hitting_sets.proofs.Steps.{slots_more, slots_all}
use Rattle.hitting_sets.proofs.extension.slots_of.Goals as goal

pub loop-slot-preserved : goal.loop-slot-preserved
loop-slot-preserved c =
    slots_more (members c.args.env.now) c.loop-slot.slot c.loop-slot.slots.items c.add_slot.new.slots.items c.loop-slot.invariant c.in_ok-add_slot.ensures

pub returns : goal.returns
returns c =
    slots_all (members c.args.env.now) SLOTS c.loop-slot.slot c.loop-slot.slots.items (slots_are_below c.args.env.now) c.loop-slot-test.false c.loop-slot.invariant
