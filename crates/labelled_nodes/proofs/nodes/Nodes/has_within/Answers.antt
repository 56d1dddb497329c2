use Rattle.std.proofs.Common.{◌≡◌, get_or, position, Some, None, sym, ap, true≢false, ◌∙◌}
use Rattle.labelled_nodes.specs.Nodes.{Labelled}
use Rattle.labelled_nodes.proofs.Labelled.{is_at, label_at, label_none}
use Rattle.labelled_nodes.proofs.nodes.Nodes.has_within.Goals as goal

pub returns-in-Some : goal.returns-in-Some
returns-in-Some c =
    let at : position (is_at c.args.fact.now) c.args.self.now.list ≡ Some c.in-Some.place = sym c.place_of.ensures ∙ c.in-Some.is in
    let read : c.index.result.now ≡ get_or c.args.self.now.list c.in-Some.place c.index.result.now = c.index.ensures ∙ ap (λ (l : Labelled). get_or l.list c.in-Some.place c.index.result.now) c.self.view_is in
    rw (label_at c.args.self.now.list c.args.fact.now c.in-Some.place c.index.result.now at, ← read) c.covers.ensures

pub returns-in-None : goal.returns-in-None
returns-in-None c =
    let at : position (is_at c.args.fact.now) c.args.self.now.list ≡ None = sym c.place_of.ensures ∙ c.in-None.is in
    rw (label_none c.args.self.now.list c.args.fact.now at) ((λ h. absurd (true≢false (sym h))), (λ h. absurd h.1))
