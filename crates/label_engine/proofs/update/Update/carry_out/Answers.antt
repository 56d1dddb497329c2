use Rattle.label_engine.proofs.Completed.{completing_now}
use Rattle.label_engine.proofs.Pieces.{survives_same}
use Rattle.label_engine.proofs.Picks.{holds_picked, maker_fits}
use Rattle.label_engine.proofs.update.Update.carry_out.Goals as goal

pub put_all_in-requires : goal.put_all_in-requires
put_all_in-requires c =
    holds_picked c.args.slots.now c.args.self.now.slot c.args.self.now.nodes c.args.self.now.recorded c.args.self.now.due.items c.add_unions.new.due.items c.args.self.now.work.items c.args.self.now.agenda c.args.item.now c.requires.at_hand c.in_ok-add_unions.ensures

pub returns-in_err-add_unions-clause-survives : goal.returns-in_err-add_unions-clause-survives
returns-in_err-add_unions-clause-survives c =
    let s = survives_same c.args.slots.now c.args.self.now in
    record { agrees = s.agrees; same_slot = s.same_slot; stay = s.stay; lead = s.lead; met = s.met; once = s.once }

pub add_unions-requires-clause-maker : goal.add_unions-requires-clause-maker
add_unions-requires-clause-maker c = maker_fits c.args.slots.now c.args.self.now.slot c.args.self.now.nodes c.args.self.now.recorded c.args.self.now.due.items c.args.self.now.work.items c.args.self.now.agenda c.args.item.now c.requires.at_hand c.slots_fit.ensures

pub add_unions-requires-clause-completing : goal.add_unions-requires-clause-completing
add_unions-requires-clause-completing c = completing_now c.args.self.now.slot c.args.self.now.nodes c.args.completing.now c.requires.completing
