use Rattle.std.proofs.Common.{rules, subst}
use Rattle.environment_sets.specs.Members.{members}
use Rattle.labelled_nodes.specs.Counted.{ArePairs}
use Rattle.labelled_nodes.specs.Nodes.{Labelled}
use Rattle.labelled_nodes.proofs.Wholes.{whole_pairs}
use Rattle.labelled_nodes.proofs.nodes.Nodes.count_inside.Goals as goal

pub returns-in-Some : goal.returns-in-Some
returns-in-Some c =
    let nodes = c.self.inside.list.items in
    let mask = members c.args.mask.now in
    let reach = members c.self.inside.whole.reach in
    let P : Labelled → Type 0 = λ l. ArePairs l.list mask c.in-Some.count in
    (c.in-Some.count, subst P c.self.view_is (whole_pairs nodes reach mask c.self.inside.whole.count c.self.invariant.2 (c.is_subset.ensures.subset.0 c.if-is_subset.true) c.self.invariant.0 c.in-Some.count c.in-Some.is), search rules)
