use Rattle.std.proofs.Common.{Ordering, refl, ap, ap₂, ◌∙◌}
use Rattle.environment_sets.specs.Sets.{◌∩◌}
use Rattle.environment_sets.specs.Members.{members}
use Rattle.environment_sets.specs.Orders.{first_of_both, compare_in}
use Rattle.environment_sets.proofs.OrderLaws.{first_of_both-unequal}
use Rattle.diagnosis_order.specs.Ranks.{compare_ranks}
use Rattle.diagnosis_order.proofs.ranks.compare.Goals as goal

pub returns-in-Equal : goal.returns-in-Equal
unfolding compare_ranks
returns-in-Equal c =
    let order = c.args.order.now in
    let L = members c.args.listed.now in
    let inside : Ordering = compare_in order (members c.args.a.now.set ∩ L) (members c.args.b.now.set ∩ L) in
    c.compare_in.ensures
    ∙ (ap₂ (compare_in order) c.meet.ensures c.meet-in-Equal.ensures ∙ ap (λ o. first_of_both o inside) c.in-Equal.ensures)

pub returns-in_default : goal.returns-in_default
unfolding compare_ranks
returns-in_default c =
    let order = c.args.order.now in
    let L = members c.args.listed.now in
    let inside : Ordering = compare_in order (members c.args.a.now.set ∩ L) (members c.args.b.now.set ∩ L) in
    first_of_both-unequal c.cmp.result inside (first_of_both c.cmp.result inside) refl c.in_default.not-Equal
    ∙ ap (λ o. first_of_both o inside) c.cmp.ensures
