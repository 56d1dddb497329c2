use Rattle.std.proofs.Common.{ap₂, ◌∙◌}
use Rattle.environment_sets.specs.Orders.{compare_in}
use Rattle.standing_view.specs.Conflicts.{compare_inside}
use Rattle.standing_view.proofs.listing.compare.Goals as goal

pub returns : goal.returns
unfolding compare_inside
returns c = c.compare_in.ensures ∙ ap₂ (compare_in c.args.order.now) c.meet.ensures c.meet-2.ensures
