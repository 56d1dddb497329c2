use Rattle.std.proofs.Common.{◌≡◌, ◌++◌, List, filter, map, refl, sym, ap, subst, ◌∙◌}
use Rattle.environment_sets.specs.Lists.{IsIn}
use Rattle.inference_search.specs.declared.inferred.Inferred.{Inferred}
use Rattle.inference_search.specs.Found.{AreMadeBy}
use Rattle.label_engine.specs.declared.update.Update.{Update}
use Rattle.labelled_nodes.specs.Nodes.{facts_of}
use Rattle.label_engine.specs.Update.{CanBeRecorded, HasSomeOf, AreNeeded, AreAlso, goes_from_none, due_with, items_from}
use Rattle.label_engine.proofs.Assuming.{part_begins}
use Rattle.label_engine.proofs.Pieces.{IfOk-map, agrees_same}
use Rattle.label_engine.proofs.Noted.{needed_can_be, needed_lead, survives_noted}
use Rattle.label_engine.proofs.update.Update.begin_part.Goals as goal

pub returns-clause-ok : goal.returns-clause-ok
returns-clause-ok c =
    let w : Update = c.args.self.now in
    let found : List Inferred = c.in_ok-found.found.items in
    let needed : List Inferred = c.in_ok-needed.needed.items in
    let made : AreMadeBy c.args.slots.now (facts_of w.nodes.list) w.slot found = c.in_ok-found.ensures.exact in
    let are_needed : AreNeeded w.recorded found needed =
    (let P : List Inferred → List Inferred → Type 0 = λ r f. AreNeeded r f needed in subst (P w.recorded) c.deref.ensures.value c.in_ok-needed.ensures) in
    let also : AreAlso needed w.recorded c.record_all.new.recorded = (let P : List Inferred → Type 0 = λ l. AreAlso l w.recorded c.record_all.new.recorded in subst P c.deref-2.ensures.value c.in_ok-record_all.ensures.ok) in
    let due : c.due_from_none.new.due.items ≡ w.due.items ++ map (due_with c.made_by-env.result) (filter goes_from_none needed) =
    c.in_ok-due_from_none.ensures ∙ ap (λ l. w.due.items ++ map (due_with c.made_by-env.result) (filter goes_from_none l)) c.deref-3.ensures.value in
    IfOk-map c.bring_at_each.result (λ x e. part_begins c.args.slots.now w c.requires.before c.made_by-env.result c.made_by-env.ensures c.requires.works.0 c.requires.works.1 found needed made are_needed c.record_all.new.recorded also c.due_from_none.new.due.items c.bring_at_each.new.work.items due
    (e ∙ ap (λ l. w.work.items ++ items_from w.nodes.list l) c.deref-4.ensures.value)) c.bring_at_each.ensures

pub record_all-requires : goal.record_all-requires
record_all-requires c =
    let w : Update = c.args.self.now in
    let found : List Inferred = c.in_ok-found.found.items in
    let needed : List Inferred = c.in_ok-needed.needed.items in
    let are_needed : AreNeeded w.recorded found needed = subst (λ (l : List Inferred). AreNeeded w.recorded l needed) c.deref.ensures.value c.in_ok-needed.ensures in
    subst (λ (l : List Inferred). (i : Inferred) → IsIn l i → CanBeRecorded i) (sym c.deref-2.ensures.value)
    (needed_can_be c.args.slots.now c.slots_fit.ensures found c.in_ok-found.ensures.once c.in_ok-found.ensures.exact.are.leads w.recorded needed are_needed)

pub returns-in_err-record_all-clause-survives : goal.returns-in_err-record_all-clause-survives
returns-in_err-record_all-clause-survives c =
    let w : Update = c.args.self.now in
    let found : List Inferred = c.in_ok-found.found.items in
    let needed : List Inferred = c.in_ok-needed.needed.items in
    let are_needed : AreNeeded w.recorded found needed = subst (λ (l : List Inferred). AreNeeded w.recorded l needed) c.deref.ensures.value c.in_ok-needed.ensures in
    let new : Update = record w { recorded = c.record_all.new.recorded } in
    survives_noted c.args.slots.now w new needed (agrees_same w new (record { labels = λ f. refl; nogoods = refl })) refl
    (subst (λ (l : List Inferred). HasSomeOf l w.recorded c.record_all.new.recorded) c.deref-2.ensures.value c.record_all.ensures.some)
    (needed_lead c.args.slots.now w.recorded found needed are_needed c.in_ok-found.ensures.exact.are.leads) (λ f there. there) (λ d. d)

pub returns-in_err-due_from_none-clause-survives : goal.returns-in_err-due_from_none-clause-survives
returns-in_err-due_from_none-clause-survives c =
    let w : Update = c.args.self.now in
    let found : List Inferred = c.in_ok-found.found.items in
    let needed : List Inferred = c.in_ok-needed.needed.items in
    let are_needed : AreNeeded w.recorded found needed = subst (λ (l : List Inferred). AreNeeded w.recorded l needed) c.deref.ensures.value c.in_ok-needed.ensures in
    let new : Update = record w { recorded = c.record_all.new.recorded; due = c.due_from_none.new.due } in
    survives_noted c.args.slots.now w new needed (agrees_same w new (record { labels = λ f. refl; nogoods = refl })) refl
    (subst (λ (l : List Inferred). HasSomeOf l w.recorded c.record_all.new.recorded) c.deref-2.ensures.value c.record_all.ensures.some)
    (needed_lead c.args.slots.now w.recorded found needed are_needed c.in_ok-found.ensures.exact.are.leads) (λ f there. there) (λ d. d)

pub returns-clause-survives : goal.returns-clause-survives
returns-clause-survives c =
    let w : Update = c.args.self.now in
    let found : List Inferred = c.in_ok-found.found.items in
    let needed : List Inferred = c.in_ok-needed.needed.items in
    let are_needed : AreNeeded w.recorded found needed = subst (λ (l : List Inferred). AreNeeded w.recorded l needed) c.deref.ensures.value c.in_ok-needed.ensures in
    let new : Update = record w { recorded = c.record_all.new.recorded; due = c.due_from_none.new.due; work = c.bring_at_each.new.work } in
    survives_noted c.args.slots.now w new needed (agrees_same w new (record { labels = λ f. refl; nogoods = refl })) refl
    (subst (λ (l : List Inferred). HasSomeOf l w.recorded c.record_all.new.recorded) c.deref-2.ensures.value c.record_all.ensures.some)
    (needed_lead c.args.slots.now w.recorded found needed are_needed c.in_ok-found.ensures.exact.are.leads) (λ f there. there) (λ d. d)
