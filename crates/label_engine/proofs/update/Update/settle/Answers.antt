use Rattle.label_engine.proofs.Pieces.{holds_taken, taken_item, at_rest, survives_on}
use Rattle.label_engine.proofs.update.Update.settle.Goals as goal

pub bring_in-requires-clause-came : goal.bring_in-requires-clause-came
bring_in-requires-clause-came g c =
    rw c.take_at-arrival.ensures.others (holds_taken c.args.slots.now c.picks.self.slot c.picks.self.nodes c.picks.self.recorded c.picks.self.due.items c.picks.self.work.items c.picks.self.agenda _ c.take_at-arrival.result
    (taken_item c.picks.self.agenda c.pick-place.result c.take_at-arrival.result c.take_at-arrival.ensures.item) c.picks.invariant.propagates)

pub picks-init : goal.picks-init
picks-init g c =
    let s = c.work_off.ensures.survives in
    record {
      propagates = c.in_ok-work_off.ensures.ok.propagates;
      none_due = c.in_ok-work_off.ensures.none_due;
      none_at_hand = c.in_ok-work_off.ensures.none_at_hand;
      survives = survives_on c.args.slots.now c.args.self.now c.put_all_in.new.self c.work_off.new.self c.put_all_in.ensures.survives (record { agrees = s.agrees; same_slot = s.same_slot; stay = s.stay; lead = s.lead; met = s.met; once = s.once });
    }

pub picks-preserved : goal.picks-preserved
picks-preserved g c =
    let on = c.in_ok-bring_in.ensures.ok in
    let s = c.bring_in.ensures.survives in
    record {
      propagates = on.propagates;
      none_due = c.in_ok-bring_in.ensures.none_due;
      none_at_hand = c.in_ok-bring_in.ensures.none_at_hand;
      survives = survives_on c.args.slots.now c.args.self.now c.picks.self c.bring_in.new.self c.picks.invariant.survives (record { agrees = s.agrees; same_slot = s.same_slot; stay = s.stay; lead = s.lead; met = s.met; once = s.once });
    }

pub returns-in_err-work_off-clause-survives : goal.returns-in_err-work_off-clause-survives
returns-in_err-work_off-clause-survives g c =
    let s = c.work_off.ensures.survives in
    survives_on c.args.slots.now c.args.self.now c.put_all_in.new.self c.work_off.new.self c.put_all_in.ensures.survives (record { agrees = s.agrees; same_slot = s.same_slot; stay = s.stay; lead = s.lead; met = s.met; once = s.once })

pub returns-in_err-bring_in-clause-survives : goal.returns-in_err-bring_in-clause-survives
returns-in_err-bring_in-clause-survives g c =
    let s = c.bring_in.ensures.survives in
    survives_on c.args.slots.now c.args.self.now c.picks.self c.bring_in.new.self c.picks.invariant.survives (record { agrees = s.agrees; same_slot = s.same_slot; stay = s.stay; lead = s.lead; met = s.met; once = s.once })

pub returns-clause-ok : goal.returns-clause-ok
returns-clause-ok g c =
    at_rest c.args.slots.now c.picks.self c.picks.invariant.propagates c.picks.invariant.none_due c.picks.invariant.none_at_hand (c.is_empty.ensures.0 c.picks-test.false) (c.picks.invariant.survives.once c.requires.once)
