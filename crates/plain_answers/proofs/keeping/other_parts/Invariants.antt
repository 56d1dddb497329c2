use Rattle.plain_answers.specs.Members.{members}
use Rattle.plain_answers.proofs.Positions.{AreOthersBelow}
use Rattle.plain_answers.proofs.keeping.other_parts.Given as goal

abbrev pub invariant-loop-place : goal.invariant-loop-place
invariant-loop-place l = AreOthersBelow l.place (members l.one) (members l.others)
