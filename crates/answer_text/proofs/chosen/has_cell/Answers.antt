use Rattle.std.proofs.Common.{sym, ◌∙◌}
use Rattle.circuit_model.specs.Present.{is_cell}
use Rattle.answer_text.proofs.Anywhere.{any_at, none_more}
use Rattle.answer_text.proofs.chosen.has_cell.Goals as goal

pub returns-then-is_same : goal.returns-then-is_same
returns-then-is_same c = sym (any_at (λ d. is_cell d c.args.cell) c.args.cells.now c.loop-i.i c.at.result c.at.ensures (sym c.is_same.ensures ∙ c.if-is_same.true))

pub loop-i-preserved : goal.loop-i-preserved
loop-i-preserved c = none_more (λ d. is_cell d c.args.cell) c.args.cells.now c.loop-i.i c.at.result c.loop-i.invariant c.at.ensures (sym c.is_same.ensures ∙ c.if-is_same.false)
