use Rattle.std.proofs.Common.{◌≡◌, ◌++◌, map, take}
use Rattle.label_engine.specs.Update.{item_at}
use Rattle.label_engine.proofs.update.bring_with_each.Given as goal

abbrev pub invariant-loop-env : goal.invariant-loop-env
invariant-loop-env l = l.work.items ≡ l.initial.work.items ++ map (λ e. item_at l.at e l.inferred) (take l.env-index l.label)
