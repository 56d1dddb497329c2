use Rattle.std.proofs.Common.{◌≡◌, ◌+◌, ◌≤◌, Some, true, true≢false, sym, ap, subst, ◌∙◌, arith}
use Rattle.circuit_model.specs.declared.model.Cell.{Cell}
use Rattle.circuit_model.specs.Present.{is_cell}
use Rattle.circuit_model.proofs.SameCells.{same_cell, cell_itself}
use Rattle.fact_index.specs.Links.{number_of_cell, cell_number, back_by_cell, past}
use Rattle.fact_index.proofs.Walking.{Seeks, seeks_first, seeks_next, falls, last_found, none_found}
use Rattle.fact_index.proofs.links.last_from.Goals as goal

pub loop-next-init : goal.loop-next-init
loop-next-init c = seeks_first c.args.links.now c.args.cell c.args.first c.requires.first

pub returns-then-eq : goal.returns-then-eq
returns-then-eq c =
    let ahead : Seeks c.args.links.now c.args.cell (past c.args.first) (Some c.in-Some.place) = subst (Seeks c.args.links.now c.args.cell (past c.args.first)) c.in-Some.is c.loop-next.invariant in
    last_found c.args.links.now c.args.cell (past c.args.first) c.in-Some.place c.link_at-link.result ahead c.link_at-link.ensures (same_cell c.link_at-link.result.fact.cell c.args.cell (sym c.eq.ensures ∙ c.if-eq.true))

pub loop-next-smaller : goal.loop-next-smaller
loop-next-smaller c =
    let ahead : Seeks c.args.links.now c.args.cell (past c.args.first) (Some c.in-Some.place) = subst (Seeks c.args.links.now c.args.cell (past c.args.first)) c.in-Some.is c.loop-next.invariant in
    let low : past c.link_at-link.result.by_cell ≤ c.in-Some.place = falls cell_number c.args.links.now (number_of_cell c.args.cell) back_by_cell c.requires.back c.in-Some.place c.link_at-link.result c.link_at-link.ensures ahead.at in
    let high : past c.loop-next.next ≡ c.in-Some.place + 1 = ap past c.in-Some.is in
    omega arith

pub loop-next-preserved : goal.loop-next-preserved
loop-next-preserved c =
    let links = c.args.links.now in
    let link = c.link_at-link.result in
    let ahead : Seeks links c.args.cell (past c.args.first) (Some c.in-Some.place) = subst (Seeks links c.args.cell (past c.args.first)) c.in-Some.is c.loop-next.invariant in
    seeks_next links c.args.cell (past c.args.first) c.in-Some.place link c.requires.back c.link_at-link.ensures ahead
    (λ e. true≢false (sym (subst (λ (d : Cell). is_cell link.fact.cell d ≡ true) e (cell_itself link.fact.cell)) ∙ (sym c.eq.ensures ∙ c.if-eq.false)))

pub returns : goal.returns
returns c = none_found c.args.links.now c.args.cell (past c.args.first) (subst (Seeks c.args.links.now c.args.cell (past c.args.first)) c.in_default.is c.loop-next.invariant)
