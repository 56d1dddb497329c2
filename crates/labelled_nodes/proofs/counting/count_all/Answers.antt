use Rattle.std.proofs.Common.{◌≡◌, ◌+◌, ◌∷◌, ◌++◌, [], List, take, length, sym, ap, subst, ◌∙◌}
use Rattle.std.proofs.lemmas.List.{take_more}
use Rattle.environment_sets.specs.declared.environment.Env.{Env}
use Rattle.labelled_nodes.specs.declared.node.Node.{Node}
use Rattle.labelled_nodes.proofs.Wholes.{AreCounted, counted_more}
use Rattle.labelled_nodes.proofs.counting.count_all.Goals as goal

pub loop-node-preserved : goal.loop-node-preserved
loop-node-preserved c =
    let list = c.args.nodes.now in
    let i = c.loop-node.node-index in
    let node : Node = c.node-item.result in
    let one_more : take (i + 1) list ≡ take i list ++ node ∷ [] = take_more list i node c.loop-node-test.true ∙ ap (λ (n : Node). take i list ++ n ∷ []) (sym c.node-item.is) in
    let P : List Node → Type 0 = λ ns. AreCounted ns c.counted_with-count.result in
    subst P (sym one_more) (counted_more (take i list) node c.loop-node.count (length c.members.result.now) c.counted_with-count.result c.loop-node.invariant (ap (λ (es : List Env). length es) c.members.ensures.all) c.members.ensures.once c.counted_with-count.ensures)
