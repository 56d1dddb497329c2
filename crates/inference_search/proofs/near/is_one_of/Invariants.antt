use Rattle.std.proofs.Common.{take}
use Rattle.environment_sets.specs.Lists.{IsIn}
use Rattle.inference_search.proofs.near.is_one_of.Given as goal

abbrev pub invariant-loop-other : goal.invariant-loop-other
invariant-loop-other l = IsIn (take l.other-index l.cells) l.cell → ⊥
