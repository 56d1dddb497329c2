use Rattle.std.proofs.Common.{sym, ◌∙◌}
use Rattle.std.proofs.lemmas.Bool.{false≢true}
use Rattle.netlist_text.proofs.Acting.{may, may_not}
use Rattle.netlist_text.proofs.mode_checks.kind_to_act.Goals as goal

pub returns-then-may_act : goal.returns-then-may_act
returns-then-may_act c =
    let named = sym c.acting_kind_named.ensures ∙ c.in-Some.is in
    let acts = c.may_act.ensures.0 c.if-may_act.true in
    (may _ _ _ named acts, named, acts)

pub returns : goal.returns
returns c =
    let named = sym c.acting_kind_named.ensures ∙ c.in-Some.is in
    may_not _ _ _ named (λ acts. false≢true (sym c.if-may_act.false ∙ c.may_act.ensures.1 acts))
