use Rattle.std.proofs.Common.{◌≡◌, refl, ◌∙◌, rules}
use Rattle.label_engine.proofs.Pieces.{holds_popped, carries_on, survives_on, carries_same, survives_same}
use Rattle.label_engine.proofs.update.Update.put_all_in.Goals as goal

pub put_in-requires : goal.put_in-requires
put_in-requires c = holds_popped c.args.slots.now c.loop-due.self.slot c.loop-due.self.nodes c.loop-due.self.recorded c.loop-due.self.due.items c.pop.new.self.items c.in-Some.due c.loop-due.self.work.items c.loop-due.self.agenda c.in-Some.ensures.items c.loop-due.invariant.carries.propagates

pub loop-due-preserved : goal.loop-due-preserved
loop-due-preserved c =
    let on = c.in_ok-put_in.ensures.ok in
    let s = c.put_in.ensures.survives in
    record {
      carries = carries_on c.args.slots.now c.args.self.now c.loop-due.self c.put_in.new.self c.loop-due.invariant.carries (record { propagates = on.propagates; agrees = on.agrees; same_slot = on.same_slot; no_more = on.no_more });
      survives = survives_on c.args.slots.now c.args.self.now c.loop-due.self c.put_in.new.self c.loop-due.invariant.survives (record { agrees = s.agrees; same_slot = s.same_slot; stay = s.stay; lead = s.lead; met = s.met; once = s.once });
      work_same = c.in_ok-put_in.ensures.work_same ∙ c.loop-due.invariant.work_same;
    }

pub returns-in_err-put_in-clause-survives : goal.returns-in_err-put_in-clause-survives
returns-in_err-put_in-clause-survives c =
    let s = c.put_in.ensures.survives in
    survives_on c.args.slots.now c.args.self.now c.loop-due.self c.put_in.new.self c.loop-due.invariant.survives (record { agrees = s.agrees; same_slot = s.same_slot; stay = s.stay; lead = s.lead; met = s.met; once = s.once })

pub loop-due-init : goal.loop-due-init
loop-due-init c = record { carries = carries_same c.args.slots.now c.args.self.now c.requires; survives = survives_same c.args.slots.now c.args.self.now; work_same = refl }

pub returns-clause-ok : goal.returns-clause-ok
returns-clause-ok c =
    let was = c.loop-due.invariant.carries in
    let same : c.pop.new.self.items ≡ c.loop-due.self.due.items = search rules in
    record { propagates = rw same was.propagates; agrees = was.agrees; same_slot = was.same_slot; no_more = was.no_more }
