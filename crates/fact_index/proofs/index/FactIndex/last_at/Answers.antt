use Rattle.std.proofs.Common.{ℕ, List, length, take, sym, subst}
use Rattle.std.specs.Option.{IfSome}
use Rattle.std.proofs.lemmas.List.{length-map}
use Rattle.fact_index.specs.declared.links.Link.{Link}
use Rattle.fact_index.specs.declared.links.TheConstants.{CELL_NUMBERS}
use Rattle.fact_index.specs.Listed.{Listed, GivesLast}
use Rattle.fact_index.specs.Links.{facts_of, number_of_cell, cell_number, back_by_cell, past, IsNumbered, GivesLastNumbered}
use Rattle.fact_index.proofs.Linking.{head_gives}
use Rattle.fact_index.proofs.Walking.{given_at, last_before}
use Rattle.fact_index.proofs.index.FactIndex.last_at.Goals as goal

pub last_from-requires-clause-first : goal.last_from-requires-clause-first
last_from-requires-clause-first c =
    let i = c.self.inside in
    let links : List Link = take i.count i.links.items in
    let n = number_of_cell c.args.cell in
    let gives : GivesLastNumbered cell_number links n (length links) c.index-head.result.now = head_gives cell_number back_by_cell CELL_NUMBERS links i.by_cell.items n c.number_of_cell.result c.index-head.result.now c.self.invariant.cells c.number_of_cell.ensures.number c.number_of_cell.ensures.below c.index-head.ensures in
    subst (λ (items : List Link). IfSome c.index-head.result.now (IsNumbered cell_number (take i.count items) n)) (sym c.deref.ensures.value) (given_at cell_number links n (length links) c.index-head.result.now gives)

pub returns : goal.returns
returns c =
    let i = c.self.inside in
    let links : List Link = take i.count i.links.items in
    let n = number_of_cell c.args.cell in
    let gives : GivesLastNumbered cell_number links n (length links) c.index-head.result.now = head_gives cell_number back_by_cell CELL_NUMBERS links i.by_cell.items n c.number_of_cell.result c.index-head.result.now c.self.invariant.cells c.number_of_cell.ensures.number c.number_of_cell.ensures.below c.index-head.ensures in
    let given : GivesLast (facts_of links) c.args.cell (past c.index-head.result.now) c.last_from.result = subst (λ (items : List Link). GivesLast (facts_of (take i.count items)) c.args.cell (past c.index-head.result.now) c.last_from.result) c.deref.ensures.value c.last_from.ensures in
    let last : GivesLast (facts_of links) c.args.cell (length links) c.last_from.result = last_before links c.args.cell (length links) c.index-head.result.now c.last_from.result gives given in
    subst (λ (v : Listed). GivesLast v.facts c.args.cell (length v.facts) c.last_from.result) c.self.view_is
    (subst (λ (bound : ℕ). GivesLast (facts_of links) c.args.cell bound c.last_from.result) (sym (length-map links (λ (link : Link). link.fact))) last)
