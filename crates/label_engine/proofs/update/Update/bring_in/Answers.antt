use Rattle.label_engine.proofs.Pieces.{survives_same}
use Rattle.label_engine.proofs.Holding.{holds_brought}
use Rattle.label_engine.proofs.Picks.{source_fits}
use Rattle.label_engine.proofs.update.Update.bring_in.Goals as goal

pub work_off-requires-clause-propagates : goal.work_off-requires-clause-propagates
work_off-requires-clause-propagates c =
    rw (c.in_ok-bring_all.ensures, c.deref.ensures.value) (holds_brought c.args.self.now.recorded c.uses.new.found.items c.args.arrival.now.fact c.args.arrival.now.env c.in_ok-uses.ensures c.passed_for-passed.result c.args.slots.now c.args.self.now.slot c.args.self.now.nodes c.args.self.now.due.items c.args.self.now.work.items c.args.self.now.agenda
    c.args.arrival.now.source c.passed_for-passed.ensures c.requires.came)

pub passed_for-passed-requires : goal.passed_for-passed-requires
passed_for-passed-requires c = source_fits c.args.slots.now c.args.self.now.slot c.args.self.now.nodes c.args.self.now.recorded c.args.self.now.due.items c.args.self.now.work.items c.args.self.now.agenda c.args.arrival.now c.requires.came c.slots_fit.ensures

pub returns-in_err-bring_all-clause-survives : goal.returns-in_err-bring_all-clause-survives
returns-in_err-bring_all-clause-survives c =
    let s = survives_same c.args.slots.now c.args.self.now in
    record { agrees = s.agrees; same_slot = s.same_slot; stay = s.stay; lead = s.lead; met = s.met; once = s.once }
