use Rattle.std.proofs.Common.{◌≡◌, rules}
use Rattle.label_engine.proofs.Completed.{stays_completing}
use Rattle.label_engine.proofs.Pieces.{work_popped, carries_on, survives_on, carries_same, survives_same}
use Rattle.label_engine.proofs.update.Update.work_off.Goals as goal

pub carry_out-requires-clause-at_hand : goal.carry_out-requires-clause-at_hand
carry_out-requires-clause-at_hand c =
    work_popped c.args.slots.now c.loop-item.self.slot c.loop-item.self.nodes c.loop-item.self.recorded c.loop-item.self.due.items c.loop-item.self.work.items c.pop.new.self.items c.in-Some.item c.loop-item.self.agenda c.in-Some.ensures.items
    c.loop-item.invariant.carries.propagates

pub carry_out-requires-clause-completing : goal.carry_out-requires-clause-completing
carry_out-requires-clause-completing c =
    let was = c.loop-item.invariant.carries in stays_completing c.args.self.now.slot c.loop-item.self.slot c.args.self.now.nodes c.loop-item.self.nodes c.args.completing.now was.agrees was.same_slot c.requires.completing

pub loop-item-preserved : goal.loop-item-preserved
loop-item-preserved c =
    let on = c.in_ok-carry_out.ensures.ok in
    let s = c.carry_out.ensures.survives in
    record {
      carries = carries_on c.args.slots.now c.args.self.now c.loop-item.self c.carry_out.new.self c.loop-item.invariant.carries (record { propagates = on.propagates; agrees = on.agrees; same_slot = on.same_slot; no_more = on.no_more });
      survives = survives_on c.args.slots.now c.args.self.now c.loop-item.self c.carry_out.new.self c.loop-item.invariant.survives (record { agrees = s.agrees; same_slot = s.same_slot; stay = s.stay; lead = s.lead; met = s.met; once = s.once });
      none_due = c.in_ok-carry_out.ensures.none_due;
    }

pub returns-in_err-carry_out-clause-survives : goal.returns-in_err-carry_out-clause-survives
returns-in_err-carry_out-clause-survives c =
    let s = c.carry_out.ensures.survives in
    survives_on c.args.slots.now c.args.self.now c.loop-item.self c.carry_out.new.self c.loop-item.invariant.survives (record { agrees = s.agrees; same_slot = s.same_slot; stay = s.stay; lead = s.lead; met = s.met; once = s.once })

pub loop-item-init : goal.loop-item-init
loop-item-init c = record { carries = carries_same c.args.slots.now c.args.self.now c.requires.propagates; survives = survives_same c.args.slots.now c.args.self.now; none_due = c.requires.none_due }

pub returns-clause-ok : goal.returns-clause-ok
returns-clause-ok c =
    let was = c.loop-item.invariant.carries in
    let same : c.pop.new.self.items ≡ c.loop-item.self.work.items = search rules in
    record { propagates = rw same was.propagates; agrees = was.agrees; same_slot = was.same_slot; no_more = was.no_more }
