use Rattle.std.proofs.Common.{List, subst}
use Rattle.circuit_model.specs.declared.model.Cell.{Cell}
use Rattle.inference_search.proofs.Nearby.{made_near}
use Rattle.labelled_nodes.specs.Nodes.{facts_of, AreFactsAt}
use Rattle.label_engine.proofs.Pieces.{IfOk-map}
use Rattle.label_engine.proofs.update.made_at.Goals as goal

pub returns-clause-exact : goal.returns-clause-exact
returns-clause-exact c =
    let met = facts_of c.args.nodes.now.list in
    let at : AreFactsAt met c.in_ok-cells.cells.items c.in_ok-near.near.items = subst (λ (l : List Cell). AreFactsAt met l c.in_ok-near.near.items) c.deref.ensures.value c.in_ok-near.ensures in
    IfOk-map c.find_made_by.result
    (λ x is. made_near c.args.slots.now met c.in_ok-near.near.items c.args.slot (λ g there near. (at g).1 (there, (c.in_ok-cells.ensures.exact g.cell).1 near)) x.items (rw (← c.deref-2.ensures.value) is))
    c.find_made_by.ensures.exact
