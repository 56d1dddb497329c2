use Rattle.std.proofs.Common.{◌≡◌, List, length, ap, subst, ◌∙◌}
use Rattle.std.proofs.lemmas.List.{length-map}
use Rattle.circuit_model.specs.declared.model.Fact.{Fact}
use Rattle.fact_index.specs.Listed.{GivesLast}
use Rattle.labelled_nodes.specs.declared.node.Node.{Node}
use Rattle.labelled_nodes.specs.Nodes.{Labelled, facts_of}
use Rattle.labelled_nodes.proofs.nodes.Nodes.last_at.Goals as goal

pub returns : goal.returns
returns c =
    let nodes = c.args.self.now.list in
    let same : c.self.inside.index.facts ≡ facts_of nodes = c.self.invariant.1 ∙ ap (λ (l : Labelled). facts_of l.list) c.self.view_is in
    let P : List Fact → Type 0 = λ fs. GivesLast fs c.args.cell (length fs) c.last_at.result in
    subst (λ n. GivesLast (facts_of nodes) c.args.cell n c.last_at.result) (length-map nodes (λ (n : Node). n.fact)) (subst P same c.last_at.ensures)
