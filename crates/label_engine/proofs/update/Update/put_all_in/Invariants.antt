use Rattle.std.proofs.Common.{◌≡◌, length}
use Rattle.label_engine.specs.Update.{CarriesOn, Survives}
use Rattle.label_engine.proofs.update.Update.put_all_in.Given as goal

abbrev pub invariant-loop-due : goal.invariant-loop-due
invariant-loop-due l = record {
  carries : CarriesOn l.slots l.initial.self l.self;
  survives : Survives l.slots l.initial.self l.self;
  work_same : l.self.work.items ≡ l.initial.self.work.items;
}

abbrev pub decreases-loop-due : goal.decreases-loop-due
decreases-loop-due l = length l.self.due.items
