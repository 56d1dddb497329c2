use Rattle.proof_check.proofs.Ordered.{AreApart}
use Rattle.proof_check.proofs.facts.first_pair.Given as goal

abbrev pub invariant-loop-i : goal.invariant-loop-i
invariant-loop-i l = AreApart l.facts l.i
