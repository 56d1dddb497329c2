use Rattle.std.proofs.Common.{◌≡◌, ◌+◌, List, ◌∷◌, ◌++◌, [], get_or, take, ap, subst, ◌∙◌}
use Rattle.std.proofs.lemmas.List.{take_more}
use Rattle.circuit_model.specs.declared.model.Cell.{Cell}
use Rattle.circuit_model.specs.declared.model.Fact.{Fact}
use Rattle.fact_index.specs.Listed.{HasFactsAt}
use Rattle.labelled_nodes.specs.Nodes.{Labelled, facts_of}
use Rattle.labelled_nodes.proofs.Labelled.{facts_at_more}
use Rattle.labelled_nodes.proofs.nodes.Nodes.facts_at.Goals as goal

pub loop-cell-preserved : goal.loop-cell-preserved
loop-cell-preserved c =
    let nodes = c.args.self.now.list in
    let cells = c.args.cells.now in
    let i = c.loop-cell.cell-index in
    let cell : Cell = get_or cells i (record { net = 0; cycle = 0 }) in
    let more : take (i + 1) cells ≡ take i cells ++ cell ∷ [] = take_more cells i (record { net = 0; cycle = 0 }) c.loop-cell-test.true in
    let same : c.self.inside.index.facts ≡ facts_of nodes = c.self.invariant.1 ∙ ap (λ (l : Labelled). facts_of l.list) c.self.view_is in
    let adds : HasFactsAt (facts_of nodes) cell c.loop-cell.found.items c.add_facts_at.new.found.items = subst (λ (fs : List Fact). HasFactsAt fs cell c.loop-cell.found.items c.add_facts_at.new.found.items) same c.in_ok-add_facts_at.ensures in
    facts_at_more (facts_of nodes) cells i cell c.loop-cell.found.items c.add_facts_at.new.found.items more c.loop-cell.invariant adds
