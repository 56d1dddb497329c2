use Rattle.std.proofs.Common.{◌≡◌, rules, ap}
use Rattle.std.specs.Ordering.{is_lt}
use Rattle.std.proofs.lemmas.Fn.{always_returns_same}
use Rattle.environment_sets.specs.Members.{members}
use Rattle.diagnosis_order.specs.Ranks.{compare_ranks, is_before}
use Rattle.diagnosis_order.proofs.Ranking.{is_order}
use Rattle.diagnosis_order.proofs.ranks.sort.Goals as goal

pub returns-clause-sorted : goal.returns-clause-sorted
returns-clause-sorted c =
    let order = c.args.order.now in
    let L = members c.args.listed.now in
    c.sort_unstable_by.ensures.sorted (is_before order L) (is_order order L c.requires.listed) (always_returns_same _ (λ a r. is_lt r ≡ is_before order L a.0.now a.1.0.now) _ (λ a r f' called. let same : r ≡ compare_ranks order L a.0.now a.1.0.now = search rules in (ap is_lt same, search rules)))
