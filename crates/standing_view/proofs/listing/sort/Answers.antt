use Rattle.std.proofs.Common.{◌≡◌, rules, ap}
use Rattle.std.specs.Ordering.{is_lt}
use Rattle.std.proofs.lemmas.Fn.{always_returns_same}
use Rattle.environment_sets.specs.Members.{members}
use Rattle.standing_view.specs.Conflicts.{compare_inside, is_before}
use Rattle.standing_view.proofs.Sorted.{is_order}
use Rattle.standing_view.proofs.listing.sort.Goals as goal

pub returns-clause-sorted : goal.returns-clause-sorted
returns-clause-sorted c =
    let order = c.args.order.now in
    let L = members c.args.listed.now in
    c.sort_unstable_by.ensures.sorted (is_before order L) (is_order order L c.requires.listed) (always_returns_same _ (λ a r. is_lt r ≡ is_before order L a.0.now a.1.0.now) _ (λ a r f' called. let same : r ≡ compare_inside order L a.0.now a.1.0.now = search rules in (ap is_lt same, search rules)))
