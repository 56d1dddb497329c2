use Rattle.std.proofs.Common.{◌≡◌, [], length}
use Rattle.label_engine.specs.Update.{CarriesOn, Survives}
use Rattle.label_engine.proofs.update.Update.work_off.Given as goal

abbrev pub invariant-loop-item : goal.invariant-loop-item
invariant-loop-item l = record {
  carries : CarriesOn l.slots l.initial.self l.self;
  survives : Survives l.slots l.initial.self l.self;
  none_due : l.self.due.items ≡ [];
}

abbrev pub decreases-loop-item : goal.decreases-loop-item
decreases-loop-item l = length l.self.work.items
