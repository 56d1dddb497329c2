use Rattle.std.proofs.Common.{◌≡◌, ◌+◌, List, [], ◌∷◌, ◌++◌, take, sym, ap, subst, ◌∙◌}
use Rattle.std.proofs.lemmas.List.{take_more}
use Rattle.environment_sets.specs.Lists.{AreDistinct}
use Rattle.environment_sets.specs.Members.{members}
use Rattle.labelled_nodes.specs.declared.node.Node.{Node}
use Rattle.labelled_nodes.specs.Nodes.{facts_of}
use Rattle.labelled_nodes.specs.Counted.{ArePairs}
use Rattle.labelled_nodes.proofs.Counts.{none_before, once_front, pairs_more, shown_more}
use Rattle.labelled_nodes.proofs.counting.count_pairs.Goals as goal

pub loop-node-preserved : goal.loop-node-preserved
loop-node-preserved c =
    let list = c.args.nodes.now in
    let i = c.loop-node.node-index in
    let node = c.node-item.result in
    let was = c.loop-node.invariant in
    let one_more : take (i + 1) list ≡ take i list ++ node ∷ [] = take_more list i node c.loop-node-test.true ∙ ap (λ (n : Node). take i list ++ n ∷ []) (sym c.node-item.is) in
    let Once : List Node → Type 0 = λ ns. AreDistinct (facts_of ns) in
    let first = none_before (take i list) node (subst Once one_more (once_front (i + 1) list c.requires)) in
    let P : List Node → Type 0 = λ ns. ArePairs ns (members c.args.mask.now) (was.0 + c.count_inside.result) in (
      was.0 + c.count_inside.result,
      subst P (sym one_more) (pairs_more (take i list) node (members c.args.mask.now) was.0 was.1 first c.count_inside.result c.count_inside.ensures),
      c.saturating_add-count.ensures ∙ shown_more was.0 c.count_inside.result c.loop-node.count was.2,
    )
