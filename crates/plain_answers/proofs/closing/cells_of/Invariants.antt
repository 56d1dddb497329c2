use Rattle.plain_answers.specs.Closing.{AreCellsOf}
use Rattle.plain_answers.specs.Members.{members}
use Rattle.plain_answers.proofs.closing.cells_of.Given as goal

abbrev pub invariant-loop-place : goal.invariant-loop-place
invariant-loop-place l = AreCellsOf l.present l.place (members l.environment) l.cells
