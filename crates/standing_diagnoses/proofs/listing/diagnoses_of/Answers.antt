use Rattle.std.proofs.Common.{◌≡◌, ℕ, List, map, ap, ◌∙◌}
use Rattle.std.proofs.lemmas.Result.{IfOk-weaker}
use Rattle.circuit_model.specs.declared.present.Component.{Component}
use Rattle.circuit_model.specs.Present.{circuit_of}
use Rattle.circuit_model.specs.Probe.{positions_in}
use Rattle.environment_sets.specs.Members.{sets}
use Rattle.standing_diagnoses.proofs.Diagnosed.{order_is, slots_of_order, lists_each, as_many_costs, all_of, few_of, stop_of, if_ok_both, if_err_weaker, few_sets}
use Rattle.standing_diagnoses.proofs.listing.diagnoses_of.Goals as goal

pub diagnoses-requires-clause-slots : goal.diagnoses-requires-clause-slots
diagnoses-requires-clause-slots c =
    let order : c.deref.result.now ≡ positions_in (circuit_of c.args.present.now) = order_is c.args.present.now c.deref.result.now c.parts.result (c.deref.ensures.value ∙ c.in-Ok.ensures) c.parts.ensures.value in
    slots_of_order c.args.present.now c.parts.ensures.lawful.parts c.deref.result.now order

pub diagnoses-requires-clause-listed : goal.diagnoses-requires-clause-listed
diagnoses-requires-clause-listed c =
    let order : c.deref.result.now ≡ positions_in (circuit_of c.args.present.now) = order_is c.args.present.now c.deref.result.now c.parts.result (c.deref.ensures.value ∙ c.in-Ok.ensures) c.parts.ensures.value in
    let costs : c.deref-2.result.now ≡ map (λ (p : Component). p.cost) c.args.present.now.parts = c.deref-2.ensures.value ∙ c.in-Ok-costs_in_order.ensures in
    lists_each c.args.present.now (sets c.args.conflicts.now) c.requires c.deref.result.now c.deref-2.result.now order costs

pub diagnoses-requires-clause-costs : goal.diagnoses-requires-clause-costs
diagnoses-requires-clause-costs c =
    let order : c.deref.result.now ≡ positions_in (circuit_of c.args.present.now) = order_is c.args.present.now c.deref.result.now c.parts.result (c.deref.ensures.value ∙ c.in-Ok.ensures) c.parts.ensures.value in
    let costs : c.deref-2.result.now ≡ map (λ (p : Component). p.cost) c.args.present.now.parts = c.deref-2.ensures.value ∙ c.in-Ok-costs_in_order.ensures in
    as_many_costs c.args.present.now c.deref-2.result.now c.deref.result.now costs order

pub returns-clause-all : goal.returns-clause-all
returns-clause-all c =
    let order : c.deref.result.now ≡ positions_in (circuit_of c.args.present.now) = order_is c.args.present.now c.deref.result.now c.parts.result (c.deref.ensures.value ∙ c.in-Ok.ensures) c.parts.ensures.value in
    let costs : c.deref-2.result.now ≡ map (λ (p : Component). p.cost) c.args.present.now.parts = c.deref-2.ensures.value ∙ c.in-Ok-costs_in_order.ensures in
    IfOk-weaker c.diagnoses.result _ _ (λ found listing. all_of c.args.present.now (sets c.args.conflicts.now) c.requires c.deref.result.now c.deref-2.result.now order costs (sets found.items) listing) c.diagnoses.ensures.all

pub returns-clause-few : goal.returns-clause-few
returns-clause-few c =
    let order : c.deref.result.now ≡ positions_in (circuit_of c.args.present.now) = order_is c.args.present.now c.deref.result.now c.parts.result (c.deref.ensures.value ∙ c.in-Ok.ensures) c.parts.ensures.value in
    let costs : c.deref-2.result.now ≡ map (λ (p : Component). p.cost) c.args.present.now.parts = c.deref-2.ensures.value ∙ c.in-Ok-costs_in_order.ensures in
    if_ok_both c.diagnoses.result _ _ _ (λ found listing few. few_of c.args.present.now (sets c.args.conflicts.now) c.requires c.deref.result.now c.deref-2.result.now order costs (sets found.items) listing (few_sets found.items few)) c.diagnoses.ensures.all c.diagnoses.ensures.few

pub returns-clause-stopped : goal.returns-clause-stopped
returns-clause-stopped c = if_err_weaker c.diagnoses.result _ _ (λ stop h. stop_of (circuit_of c.args.present.now) c.args.conflicts.now c.requires stop h) c.diagnoses.ensures.stopped
