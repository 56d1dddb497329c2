use Rattle.justifications.proofs.Keeping.{nothing_kept}
use Rattle.justifications.proofs.weave.Weave.new.Goals as goal

pub invariant_of-result : goal.invariant_of-result
invariant_of-result c = nothing_kept c.new-3.result.entries (record { facts = c.new.result; inferences = c.new-2.result }) c.new-3.ensures.empty c.new.ensures.records c.new.ensures.heads c.new-2.ensures.records c.new-2.ensures.heads
