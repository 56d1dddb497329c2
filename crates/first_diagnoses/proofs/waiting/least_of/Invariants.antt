use Rattle.std.proofs.Common.{take}
use Rattle.first_diagnoses.specs.Waits.{IsLeastOf}
use Rattle.first_diagnoses.proofs.waiting.least_of.Given as goal

abbrev pub invariant-loop-item : goal.invariant-loop-item
invariant-loop-item l = IsLeastOf (take l.item-index l.waiting) l.least
