use Rattle.std.proofs.Common.{◌≡◌, ◌+◌, ◌≤◌, Some, true, true≢false, sym, ap, subst, ◌∙◌, arith}
use Rattle.circuit_model.specs.declared.model.Fact.{Fact}
use Rattle.circuit_model.proofs.SameCells.{same_fact, fact_itself}
use Rattle.circuit_model.specs.Present.{is_fact}
use Rattle.fact_index.specs.Links.{number_of_fact, back_by_fact, past}
use Rattle.fact_index.proofs.Walking.{Finds, fact_at, finds_first, finds_next, falls, none_listed}
use Rattle.fact_index.proofs.links.find_from.Goals as goal

pub loop-next-init : goal.loop-next-init
loop-next-init c = finds_first c.args.links.now c.args.fact.now c.args.head c.requires.head

pub returns-then-eq : goal.returns-then-eq
returns-then-eq c =
    fact_at c.args.links.now c.in-Some.place c.link_at-link.result c.link_at-link.ensures ∙ ap Some (same_fact c.link_at-link.result.fact c.args.fact.now (sym c.eq.ensures ∙ c.if-eq.true))

pub loop-next-smaller : goal.loop-next-smaller
loop-next-smaller c =
    let ahead : Finds c.args.links.now c.args.fact.now (Some c.in-Some.place) = subst (Finds c.args.links.now c.args.fact.now) c.in-Some.is c.loop-next.invariant in
    let low : past c.link_at-link.result.by_fact ≤ c.in-Some.place = falls number_of_fact c.args.links.now (number_of_fact c.args.fact.now) back_by_fact c.requires.back c.in-Some.place c.link_at-link.result c.link_at-link.ensures ahead.at in
    let high : past c.loop-next.next ≡ c.in-Some.place + 1 = ap past c.in-Some.is in
    omega arith

pub loop-next-preserved : goal.loop-next-preserved
loop-next-preserved c =
    let links = c.args.links.now in
    let f = c.args.fact.now in
    let link = c.link_at-link.result in
    let ahead : Finds links f (Some c.in-Some.place) = subst (Finds links f) c.in-Some.is c.loop-next.invariant in
    finds_next links f c.in-Some.place link c.requires.back c.link_at-link.ensures ahead (λ e. true≢false (sym (subst (λ (g : Fact). is_fact link.fact g ≡ true) e (fact_itself link.fact)) ∙ (sym c.eq.ensures ∙ c.if-eq.false)))

pub returns : goal.returns
returns c = none_listed c.args.links.now c.args.fact.now (subst (Finds c.args.links.now c.args.fact.now) c.in_default.is c.loop-next.invariant)
