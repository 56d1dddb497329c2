use Rattle.std.proofs.Common.{◌≡◌, drop}
use Rattle.plain_answers.specs.Words.{word_in}
use Rattle.plain_answers.proofs.closure.Closure.value_at.Given as goal

abbrev pub invariant-loop-place : goal.invariant-loop-place
invariant-loop-place l = word_in (drop l.place l.self) l.cell ≡ word_in l.self l.cell
