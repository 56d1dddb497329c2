use Rattle.label_engine.proofs.Assuming.{reading_begins}
use Rattle.label_engine.proofs.Pieces.{survives_same}
use Rattle.label_engine.proofs.update.Update.begin_reading.Goals as goal

pub returns-in_err-push-clause-survives : goal.returns-in_err-push-clause-survives
returns-in_err-push-clause-survives c =
    let s = survives_same c.args.slots.now c.args.self.now in
    record { agrees = s.agrees; same_slot = s.same_slot; stay = s.stay; lead = s.lead; met = s.met; once = s.once }

pub returns-clause-ok : goal.returns-clause-ok
returns-clause-ok c = reading_begins c.args.slots.now c.args.self.now c.requires.before c.made_by.result c.made_by.ensures c.args.fact.now c.requires.reads c.push.new.self.items c.in_ok-push.ensures.items

pub returns-clause-survives : goal.returns-clause-survives
returns-clause-survives c =
    let s = survives_same c.args.slots.now c.args.self.now in
    record { agrees = s.agrees; same_slot = s.same_slot; stay = s.stay; lead = s.lead; met = s.met; once = s.once }
