use Rattle.std.proofs.Common.{◌≡◌, ◌<◌, List, Some, length, slice_get, sym, ap, subst, ◌∙◌}
use Rattle.std.specs.Option.{option_map}
use Rattle.std.proofs.lemmas.List.{length-map}
use Rattle.std.proofs.lemmas.Option.{slice_get-map}
use Rattle.circuit_model.specs.declared.model.Fact.{Fact}
use Rattle.fact_index.specs.Listed.{GivesLast}
use Rattle.labelled_nodes.specs.declared.node.Node.{Node}
use Rattle.labelled_nodes.specs.Nodes.{Labelled, facts_of}
use Rattle.labelled_nodes.proofs.nodes.Nodes.before.Goals as goal

pub before-requires : goal.before-requires
before-requires c =
    let nodes = c.args.self.now.list in
    let same : c.self.inside.index.facts ≡ facts_of nodes = c.self.invariant.1 ∙ ap (λ (l : Labelled). facts_of l.list) c.self.view_is in
    subst (λ n. c.args.place < n) (sym (ap (λ (fs : List Fact). length fs) same ∙ length-map nodes (λ (n : Node). n.fact))) c.requires

pub returns : goal.returns
returns c n at =
    let nodes = c.args.self.now.list in
    let same : c.self.inside.index.facts ≡ facts_of nodes = c.self.invariant.1 ∙ ap (λ (l : Labelled). facts_of l.list) c.self.view_is in
    let there : slice_get (facts_of nodes) c.args.place ≡ Some n.fact = slice_get-map (λ (m : Node). m.fact) nodes c.args.place ∙ ap (option_map (λ (m : Node). m.fact)) at in
    let P : List Fact → Type 0 = λ fs. slice_get fs c.args.place ≡ Some n.fact → GivesLast fs n.fact.cell c.args.place c.before-2.result in
    subst P same (c.before-2.ensures n.fact) there
