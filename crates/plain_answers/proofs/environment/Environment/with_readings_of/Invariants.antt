use Rattle.plain_answers.specs.Members.{members}
use Rattle.plain_answers.proofs.WithReadings.{HasAdded}
use Rattle.plain_answers.proofs.environment.Environment.with_readings_of.Given as goal

abbrev pub invariant-loop-place : goal.invariant-loop-place
invariant-loop-place l = HasAdded l.present (members l.fn.self) l.place (members l.more)
