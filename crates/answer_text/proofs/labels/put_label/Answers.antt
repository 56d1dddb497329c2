use Rattle.std.proofs.Common.{None, sym, ap, ◌∙◌}
use Rattle.std.specs.Option.{option_map, option_copied}
use Rattle.environment_sets.specs.Members.{members}
use Rattle.environment_sets.specs.Walks.{IsNext, GivesNext}
use Rattle.circuit_model.specs.Whole.{order_of_present, stock, everything}
use Rattle.circuit_model.specs.Stock.{IsInLabel}
use Rattle.assumption_slots.specs.Slots as slots
use Rattle.standing_view.specs.View.{places}
use Rattle.answer_text.proofs.LabelLines.{stands_for, remembered, puts_none, puts_more, puts_all}
use Rattle.answer_text.proofs.labels.put_label.Goals as goal

pub environments-init : goal.environments-init
environments-init g c = puts_none c.args.present.now c.args.standing.now c.args.fact _ _

pub label_after-requires-clause-remembered : goal.label_after-requires-clause-remembered
label_after-requires-clause-remembered g c = remembered (slots.stock c.args.engine.now.slots) c.args.standing.now c.args.present.now c.requires.stands

pub label_after-requires-clause-inside : goal.label_after-requires-clause-inside
label_after-requires-clause-inside g c = λ x e. c.environments.invariant.inside x.now (sym c.as_ref.ensures.value ∙ ap option_copied e)

pub put_label_line-failed-requires-clause-stands : goal.put_label_line-failed-requires-clause-stands
put_label_line-failed-requires-clause-stands g c = stands_for (slots.stock c.args.engine.now.slots) c.args.standing.now c.args.present.now c.requires.stands

pub environments-preserved : goal.environments-preserved
environments-preserved g c =
    let next : IsNext (order_of_present c.args.present.now) (IsInLabel (stock c.args.present.now) c.args.fact) (everything c.args.present.now) (option_map (places c.args.standing.now) (option_map members c.environments.last)) (places c.args.standing.now (members c.in-Some.env)) =
    rw (← c.as_ref.ensures.value) (c.in-Some.ensures.next c.args.present.now c.requires.stands.parked c.requires.stands.stands) in
    puts_more c.args.present.now c.args.standing.now c.args.fact c.in-Some.env c.environments.invariant next c.in-Some.ensures.inside c.put_label_line-failed.ensures

pub returns : goal.returns
returns g c =
    let none : GivesNext (order_of_present c.args.present.now) (IsInLabel (stock c.args.present.now) c.args.fact) (everything c.args.present.now) (option_map (places c.args.standing.now) (option_map members c.environments.last)) None =
    rw (← c.as_ref.ensures.value) (c.in_default.ensures.next c.args.present.now c.requires.stands.parked c.requires.stands.stands) in
    puts_all c.args.present.now c.args.standing.now c.args.fact c.environments.invariant none

pub environments-smaller : goal.environments-smaller
environments-smaller g c = rw (← c.as_ref.ensures.value) c.in-Some.ensures.falls
