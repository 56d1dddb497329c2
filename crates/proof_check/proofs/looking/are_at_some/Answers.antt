use Rattle.std.proofs.Common.{get_or, sym, ◌∙◌, arith}
use Rattle.std.proofs.lemmas.Option.{slice_get-get_or}
use Rattle.proof_check.specs.Rounds.{no_cell}
use Rattle.proof_check.proofs.Looks.{some_at}
use Rattle.proof_check.proofs.looking.are_at_some.Goals as goal

pub returns-then-is_some-clause-some : goal.returns-then-is_some-clause-some
returns-then-is_some-clause-some c = λ _.
    some_at c.args.facts.now c.args.cells.now c.loop-port.port (get_or c.args.cells.now c.loop-port.port no_cell) (slice_get-get_or c.args.cells.now c.loop-port.port no_cell (omega (arith, c.told-cells))) c.word_at.result (sym c.is_some.ensures ∙ c.if-is_some.true) c.word_at.ensures
