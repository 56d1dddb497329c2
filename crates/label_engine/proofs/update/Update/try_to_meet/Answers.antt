use Rattle.std.proofs.Common.{refl}
use Rattle.label_engine.specs.declared.update.Update.{Update}
use Rattle.label_engine.proofs.Pieces.{agrees_same, labels_met, facts_met, once_met}
use Rattle.label_engine.proofs.Noted.{survives_noted}
use Rattle.label_engine.proofs.update.Update.try_to_meet.Goals as goal

pub returns-in_err-record_uses-clause-survives : goal.returns-in_err-record_uses-clause-survives
returns-in_err-record_uses-clause-survives c =
    let new : Update = record c.args.self.now { recorded = c.record_uses.new.recorded } in
    let some = c.record_uses.ensures.some in
    survives_noted c.args.slots.now c.args.self.now new some.more (agrees_same c.args.self.now new (record { labels = λ f. refl; nogoods = refl })) refl some.some some.lead (λ f there. there) (λ d. d)

pub returns-clause-kept : goal.returns-clause-kept
returns-clause-kept c = record {
  labels = labels_met c.meet.result c.args.self.now.nodes c.meet.new.self c.args.fact.now c.meet.ensures.ok c.meet.ensures.err;
  nogoods = c.meet.ensures.nogoods;
}

pub returns-clause-survives : goal.returns-clause-survives
returns-clause-survives c =
    let new : Update = record c.args.self.now { recorded = c.record_uses.new.recorded; nodes = c.meet.new.self } in
    let some = c.record_uses.ensures.some in
    survives_noted c.args.slots.now c.args.self.now new some.more (agrees_same c.args.self.now new (returns-clause-kept c)) refl some.some some.lead
    (facts_met c.meet.result c.args.self.now.nodes c.meet.new.self c.args.fact.now c.meet.ensures.ok c.meet.ensures.err)
    (once_met c.meet.result c.args.self.now.nodes c.meet.new.self c.args.fact.now c.meet.ensures.ok c.meet.ensures.err c.requires)
