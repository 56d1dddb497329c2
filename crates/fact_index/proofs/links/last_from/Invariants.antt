use Rattle.fact_index.specs.Links.{past}
use Rattle.fact_index.proofs.Walking.{Seeks}
use Rattle.fact_index.proofs.links.last_from.Given as goal

abbrev pub invariant-loop-next : goal.invariant-loop-next
invariant-loop-next l = Seeks l.links l.cell (past l.fn.first) l.next

abbrev pub decreases-loop-next : goal.decreases-loop-next
decreases-loop-next l = past l.next
