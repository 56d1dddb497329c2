use Rattle.label_engine.proofs.TakingBack.{IfErr-always}
use Rattle.label_engine.proofs.Noted.{stays_without, leads_without}
use Rattle.label_engine.proofs.update.Update.meet.Goals as goal

pub returns-then-is_err-clause-survives : goal.returns-then-is_err-clause-survives
returns-then-is_err-clause-survives c =
    let s = c.try_to_meet-outcome.ensures.survives in
    record {
      agrees = s.agrees;
      same_slot = s.same_slot;
      stay = stays_without c.args.slots.now c.args.self.now c.try_to_meet-outcome.new.self c.args.fact.now s c.requires c.drop_uses.new.self c.drop_uses.ensures;
      lead = leads_without c.args.slots.now c.args.self.now c.try_to_meet-outcome.new.self c.args.fact.now s c.requires c.drop_uses.new.self c.drop_uses.ensures;
      met = s.met;
      once = s.once;
    }

pub returns-then-is_err-clause-err : goal.returns-then-is_err-clause-err
returns-then-is_err-clause-err c = IfErr-always c.try_to_meet-outcome.result (λ i there uses. ((c.drop_uses.ensures i).0 there).1 uses)
