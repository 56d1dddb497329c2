use Rattle.fact_index.specs.Gathered.{IsGathered}
use Rattle.fact_index.specs.Links.{past}
use Rattle.fact_index.proofs.index.FactIndex.add_facts_at.Given as goal

abbrev pub invariant-loop-next : goal.invariant-loop-next
invariant-loop-next l = IsGathered l.self.facts l.fn.cell l.fn.found.items l.found.items l.next

abbrev pub decreases-loop-next : goal.decreases-loop-next
decreases-loop-next l = past l.next
