use Rattle.std.proofs.Common.{◌≡◌, []}
use Rattle.label_engine.specs.Update.{Propagates, Survives, load}
use Rattle.label_engine.proofs.update.Update.settle.Given as goal

abbrev pub invariant-picks : goal.invariant-picks
invariant-picks g l = record {
  propagates : Propagates l.slots l.self;
  none_due : l.self.due.items ≡ [];
  none_at_hand : l.self.work.items ≡ [];
  survives : Survives l.slots l.fn.self l.self;
}

abbrev pub decreases-picks : goal.decreases-picks
decreases-picks g l = load l.self
