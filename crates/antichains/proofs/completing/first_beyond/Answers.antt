use Rattle.std.proofs.Common.{◌<◌, arith}
use Rattle.environment_sets.specs.declared.environment.TheConstants.{SLOTS}
use Rattle.environment_sets.proofs.Slots.{slots_are_below}
use Rattle.antichains.proofs.completing.first_beyond.Goals as goal

pub returns : goal.returns
returns c k there = let low : k < SLOTS = slots_are_below c.args.member.now k there in c.loop-slot.invariant k (omega (arith, low, c.loop-slot-test.false)) there
