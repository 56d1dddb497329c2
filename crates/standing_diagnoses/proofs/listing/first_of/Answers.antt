use Rattle.std.proofs.Common.{◌≡◌, ℕ, List, map, ap, ◌∙◌}
use Rattle.std.proofs.lemmas.Result.{IfOk-weaker}
use Rattle.circuit_model.specs.declared.present.Component.{Component}
use Rattle.circuit_model.specs.Present.{circuit_of}
use Rattle.circuit_model.specs.Probe.{positions_in}
use Rattle.environment_sets.specs.Members.{sets}
use Rattle.standing_diagnoses.proofs.Diagnosed.{order_is, slots_of_order, lists_each, as_many_costs, first_diagnoses_of}
use Rattle.standing_diagnoses.proofs.listing.first_of.Goals as goal

pub first-requires-clause-slots : goal.first-requires-clause-slots
first-requires-clause-slots c =
    let order : c.deref-2.result.now ≡ positions_in (circuit_of c.args.present.now) = order_is c.args.present.now c.deref-2.result.now c.parts.result (c.deref-2.ensures.value ∙ c.in_ok-order.ensures) c.parts.ensures.value in
    slots_of_order c.args.present.now c.parts.ensures.lawful.parts c.deref-2.result.now order

pub first-requires-clause-listed : goal.first-requires-clause-listed
first-requires-clause-listed c =
    let order : c.deref-2.result.now ≡ positions_in (circuit_of c.args.present.now) = order_is c.args.present.now c.deref-2.result.now c.parts.result (c.deref-2.ensures.value ∙ c.in_ok-order.ensures) c.parts.ensures.value in
    let costs : c.deref.result.now ≡ map (λ (p : Component). p.cost) c.args.present.now.parts = c.deref.ensures.value ∙ c.in_ok-costs.ensures in
    lists_each c.args.present.now (sets c.args.conflicts.now) c.requires c.deref-2.result.now c.deref.result.now order costs

pub first-requires-clause-costs : goal.first-requires-clause-costs
first-requires-clause-costs c =
    let order : c.deref-2.result.now ≡ positions_in (circuit_of c.args.present.now) = order_is c.args.present.now c.deref-2.result.now c.parts.result (c.deref-2.ensures.value ∙ c.in_ok-order.ensures) c.parts.ensures.value in
    let costs : c.deref.result.now ≡ map (λ (p : Component). p.cost) c.args.present.now.parts = c.deref.ensures.value ∙ c.in_ok-costs.ensures in
    as_many_costs c.args.present.now c.deref.result.now c.deref-2.result.now costs order

pub returns : goal.returns
returns c =
    let order : c.deref-2.result.now ≡ positions_in (circuit_of c.args.present.now) = order_is c.args.present.now c.deref-2.result.now c.parts.result (c.deref-2.ensures.value ∙ c.in_ok-order.ensures) c.parts.ensures.value in
    let costs : c.deref.result.now ≡ map (λ (p : Component). p.cost) c.args.present.now.parts = c.deref.ensures.value ∙ c.in_ok-costs.ensures in
    IfOk-weaker c.first.result _ _ (λ found first. first_diagnoses_of c.args.present.now (sets c.args.conflicts.now) c.requires c.deref-2.result.now c.deref.result.now order costs c.args.k (sets found.items) first) c.first.ensures
