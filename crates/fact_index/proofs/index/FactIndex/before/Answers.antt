use Rattle.std.proofs.Common.{◌≡◌, ◌<◌, ◌≤◌, List, Some, length, take, slice_get, sym, subst, ◌∙◌, refl, arith}
use Rattle.std.proofs.lemmas.List.{length-map, length-take-le}
use Rattle.std.proofs.lemmas.Option.{slice_get_read}
use Rattle.circuit_model.specs.declared.model.Fact.{Fact}
use Rattle.circuit_model.proofs.Presents.{slice_get-take}
use Rattle.fact_index.specs.declared.links.Link.{Link}
use Rattle.fact_index.specs.Listed.{Listed, GivesLast}
use Rattle.fact_index.specs.Links.{facts_of, past}
use Rattle.fact_index.proofs.Walking.{before_given}
use Rattle.fact_index.proofs.index.FactIndex.before.Goals as goal

pub returns : goal.returns
returns c =
    let i = c.self.inside in
    let links : List Link = take i.count i.links.items in
    let link = c.index-link.result.now in
    let count : length (facts_of links) ≡ i.count = length-map links (λ (link : Link). link.fact) ∙ length-take-le i.count i.links.items c.self.invariant.within in
    let inside : c.args.place < length (facts_of links) = subst (λ (v : Listed). c.args.place < length v.facts) (sym c.self.view_is) c.requires in
    let low : c.args.place < i.count = omega arith in
    let within : i.count ≤ length i.links.items = c.self.invariant.within in
    let at : slice_get links c.args.place ≡ Some link = slice_get-take i.count i.links.items c.args.place low ∙ slice_get_read i.links.items (length i.links.items) c.args.place link refl (omega arith) c.index-link.ensures in
    let given : GivesLast (facts_of links) link.fact.cell (past link.by_cell) c.last_from.result = subst (λ (items : List Link). GivesLast (facts_of (take i.count items)) link.fact.cell (past link.by_cell) c.last_from.result) c.deref.ensures.value c.last_from.ensures in
    subst (λ (v : Listed). (f : Fact) → slice_get v.facts c.args.place ≡ Some f → GivesLast v.facts f.cell c.args.place c.last_from.result) c.self.view_is
    (before_given links c.args.place link c.last_from.result c.self.invariant.cells.lead_back at given)
