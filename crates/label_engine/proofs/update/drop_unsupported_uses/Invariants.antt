use Rattle.std.proofs.Common.{take}
use Rattle.recorded_inferences.specs.Recorded.{AreWithout}
use Rattle.label_engine.specs.Update.{GoesFromUnsupported}
use Rattle.label_engine.proofs.update.drop_unsupported_uses.Given as goal

abbrev pub invariant-loop-node : goal.invariant-loop-node
invariant-loop-node l = AreWithout (GoesFromUnsupported (take l.node-index l.nodes)) l.initial.recorded l.recorded
