use Rattle.std.proofs.Common.{List, subst, sym}
use Rattle.circuit_model.specs.declared.model.Fact.{Fact}
use Rattle.environment_sets.specs.Lists.{IsIn}
use Rattle.inference_search.specs.declared.inferred.Inferred.{Inferred}
use Rattle.inference_search.specs.Found.{AreFound}
use Rattle.labelled_nodes.specs.Nodes.{facts_of}
use Rattle.label_engine.specs.Update.{CanBeRecorded, AreAlso, HasSomeOf, AreNeeded}
use Rattle.label_engine.proofs.Pieces.{IfOk-map}
use Rattle.label_engine.proofs.Noted.{needed_can_be, some_uses, no_uses}
use Rattle.label_engine.proofs.update.record_uses.Goals as goal

pub record_all-requires : goal.record_all-requires
record_all-requires c =
    let found : List Inferred = c.in_ok-found.found.items in
    let needed : List Inferred = c.in_ok-needed.needed.items in
    let are : AreNeeded c.args.recorded.now found needed = subst (λ (l : List Inferred). AreNeeded c.args.recorded.now l needed) c.deref.ensures.value c.in_ok-needed.ensures in
    subst (λ (l : List Inferred). (i : Inferred) → IsIn l i → CanBeRecorded i) (sym c.deref-2.ensures.value)
    (needed_can_be c.args.slots.now c.slots_fit.ensures found c.in_ok-found.ensures.once c.in_ok-found.ensures.exact.are.leads c.args.recorded.now needed are)

pub returns-clause-ok : goal.returns-clause-ok
returns-clause-ok c =
    let found : List Inferred = c.in_ok-found.found.items in
    let needed : List Inferred = c.in_ok-needed.needed.items in
    let met : List Fact = facts_of c.args.nodes.now.list in
    let are_found : AreFound c.args.slots.now met c.args.fact.now found = c.in_ok-found.ensures.exact in
    let are_needed : AreNeeded c.args.recorded.now found needed = subst (λ (l : List Inferred). AreNeeded c.args.recorded.now l needed) c.deref.ensures.value c.in_ok-needed.ensures in
    IfOk-map c.record_all.result (λ x also. record { found = found; are_found = are_found; needed = needed; are_needed = are_needed; recorded = subst (λ (l : List Inferred). AreAlso l c.args.recorded.now c.record_all.new.recorded) c.deref-2.ensures.value also }) c.record_all.ensures.ok

pub returns-clause-some : goal.returns-clause-some
returns-clause-some c =
    let found : List Inferred = c.in_ok-found.found.items in
    let needed : List Inferred = c.in_ok-needed.needed.items in
    let are_needed : AreNeeded c.args.recorded.now found needed = subst (λ (l : List Inferred). AreNeeded c.args.recorded.now l needed) c.deref.ensures.value c.in_ok-needed.ensures in
    some_uses c.args.slots.now (facts_of c.args.nodes.now.list) c.args.fact.now c.args.recorded.now c.record_all.new.recorded found needed c.in_ok-found.ensures.exact are_needed
    (subst (λ (l : List Inferred). HasSomeOf l c.args.recorded.now c.record_all.new.recorded) c.deref-2.ensures.value c.record_all.ensures.some)

pub returns-in_err-found-clause-some : goal.returns-in_err-found-clause-some
returns-in_err-found-clause-some c = no_uses c.args.slots.now c.args.fact.now c.args.recorded.now

pub returns-in_err-needed-clause-some : goal.returns-in_err-needed-clause-some
returns-in_err-needed-clause-some c = no_uses c.args.slots.now c.args.fact.now c.args.recorded.now
