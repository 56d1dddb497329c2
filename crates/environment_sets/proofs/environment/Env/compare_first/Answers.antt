use Rattle.std.proofs.Common.{sym, ◌∙◌}
use Rattle.environment_sets.proofs.Listings.{IsIn-get_or}
use Rattle.environment_sets.proofs.OrderLaws.{by_first-past}
use Rattle.environment_sets.proofs.environment.Env.compare_first.Goals as goal

pub has-requires : goal.has-requires
has-requires c = c.requires.below _ (IsIn-get_or c.args.order.now c.loop-slot.slot-index 0 c.loop-slot-test.true)

pub has-requires-in-loop-slot : goal.has-requires-in-loop-slot
has-requires-in-loop-slot c = c.requires.below _ (IsIn-get_or c.args.order.now c.loop-slot.slot-index 0 c.loop-slot-test.true)

pub returns : goal.returns
returns c = sym (c.loop-slot.invariant ∙ by_first-past c.args.order.now _ _ c.loop-slot.slot-index c.loop-slot-test.false)
