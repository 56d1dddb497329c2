use Rattle.std.proofs.Common.{◌≡◌, ◌++◌, take}
use Rattle.label_engine.specs.Update.{items_from}
use Rattle.label_engine.proofs.update.bring_at_each.Given as goal

abbrev pub invariant-loop-inferred : goal.invariant-loop-inferred
invariant-loop-inferred l = l.work.items ≡ l.initial.work.items ++ items_from l.nodes.list (take l.inferred-index l.found)
