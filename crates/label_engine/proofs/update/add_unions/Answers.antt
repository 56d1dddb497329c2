use Rattle.std.proofs.Common.{sym, ◌∙◌}
use Rattle.label_engine.proofs.Picks.{alone}
use Rattle.label_engine.proofs.Pieces.{IfOk-map, unions_with_other}
use Rattle.label_engine.proofs.update.add_unions.Goals as goal

pub returns-in_ok-push-in-None : goal.returns-in_ok-push-in-None
returns-in_ok-push-in-None c =
    rw c.in_ok-push-in-None.ensures.items (alone c.args.item.now c.args.nodes.now c.args.due.now.items c.sourced_union.result (sym c.other_of.ensures ∙ c.in-None.is) (rw (← c.empty-none.ensures) c.sourced_union.ensures))

pub returns-in-Some-label : goal.returns-in-Some-label
returns-in-Some-label c =
    IfOk-map c.add_unions_with.result (λ x u. unions_with_other c.args.item.now c.args.nodes.now c.in-Some.fact c.args.due.now.items c.add_unions_with.new.due.items (sym c.other_of.ensures ∙ c.in-Some.is) (rw (← c.in-Some-label.ensures) u)) c.add_unions_with.ensures
