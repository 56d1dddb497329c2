use Rattle.std.proofs.Common.{take}
use Rattle.label_engine.specs.Update.{AreAlso}
use Rattle.label_engine.proofs.recording.record_all.Given as goal

abbrev pub invariant-loop-inferred : goal.invariant-loop-inferred
invariant-loop-inferred l = AreAlso (take l.inferred-index l.found) l.initial.recorded l.recorded
