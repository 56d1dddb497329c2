use Rattle.std.proofs.Common.{take}
use Rattle.label_engine.specs.Update.{HasUnionsWith}
use Rattle.label_engine.proofs.update.add_unions_with.Given as goal

abbrev pub invariant-loop-env : goal.invariant-loop-env
invariant-loop-env l = HasUnionsWith l.item l.nodes (take l.env-index l.label) l.initial.due.items l.due.items
