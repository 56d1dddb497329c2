use Rattle.std.proofs.Common.{take}
use Rattle.label_engine.specs.Update.{AreNeeded}
use Rattle.label_engine.proofs.recording.needed_of.Given as goal

abbrev pub invariant-loop-inferred : goal.invariant-loop-inferred
invariant-loop-inferred l = AreNeeded l.recorded (take l.inferred-index l.found) l.needed.items
