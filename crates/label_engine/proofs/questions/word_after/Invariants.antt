use Rattle.environment_sets.specs.Members.{members}
use Rattle.fact_index.specs.Links.{past}
use Rattle.label_engine.proofs.Values.{AreWalked}
use Rattle.label_engine.proofs.questions.word_after.Given as goal

abbrev pub invariant-loop-next : goal.invariant-loop-next
invariant-loop-next l = AreWalked l.nodes.list l.cell (members l.mask) l.last l.found l.next

abbrev pub decreases-loop-next : goal.decreases-loop-next
decreases-loop-next l = past l.next
