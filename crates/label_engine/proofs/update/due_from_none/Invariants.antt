use Rattle.std.proofs.Common.{◌≡◌, ◌++◌, filter, map, take}
use Rattle.label_engine.specs.Update.{goes_from_none, due_with}
use Rattle.label_engine.proofs.update.due_from_none.Given as goal

abbrev pub invariant-loop-inferred : goal.invariant-loop-inferred
invariant-loop-inferred l = l.due.items ≡ l.initial.due.items ++ map (due_with l.env) (filter goes_from_none (take l.inferred-index l.found))
