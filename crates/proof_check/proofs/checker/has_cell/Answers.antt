use Rattle.std.proofs.Common.{sym, ◌∙◌, arith}
use Rattle.circuit_model.proofs.SameCells.{same_cell}
use Rattle.proof_check.proofs.Found.{found, not_found}
use Rattle.proof_check.proofs.checker.has_cell.Goals as goal

pub returns-then-eq : goal.returns-then-eq
returns-then-eq c = found c.args.cells.now c.loop-i.i c.at.result c.args.cell c.at.ensures (same_cell c.at.result c.args.cell (sym c.eq.ensures ∙ c.if-eq.true))

pub returns : goal.returns
returns c = not_found c.args.cells.now c.loop-i.i c.args.cell (omega (arith, c.len-i-end.ensures.value)) c.loop-i.invariant
