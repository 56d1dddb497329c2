use Rattle.std.proofs.Common.{◌≡◌, ◌++◌, take}
use Rattle.label_engine.specs.Update.{items_to}
use Rattle.label_engine.proofs.update.bring_uses.Given as goal

abbrev pub invariant-loop-inferred : goal.invariant-loop-inferred
invariant-loop-inferred l = l.work.items ≡ l.initial.work.items ++ items_to l.passed l.clash l.arrival.fact l.arrival.env (take l.inferred-index l.uses)
