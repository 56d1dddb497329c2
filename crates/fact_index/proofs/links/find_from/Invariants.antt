use Rattle.fact_index.specs.Links.{past}
use Rattle.fact_index.proofs.Walking.{Finds}
use Rattle.fact_index.proofs.links.find_from.Given as goal

abbrev pub invariant-loop-next : goal.invariant-loop-next
invariant-loop-next l = Finds l.links l.fact l.next

abbrev pub decreases-loop-next : goal.decreases-loop-next
decreases-loop-next l = past l.next
