use Rattle.plain_answers.specs.Closing.{ArePartsOf}
use Rattle.plain_answers.specs.Members.{members}
use Rattle.plain_answers.proofs.closing.parts_of.Given as goal

abbrev pub invariant-loop-place : goal.invariant-loop-place
invariant-loop-place l = ArePartsOf l.place (members l.environment) l.parts
