use Rattle.std.proofs.Common.{sym, ◌∙◌}
use Rattle.plain_answers.specs.Members.{members}
use Rattle.plain_answers.proofs.Gathering.{cells_before, cell_put, cell_passed}
use Rattle.plain_answers.proofs.closing.put_cell.Goals as goal

pub push-requires : goal.push-requires
push-requires c =
    cells_before c.args.present.now c.requires.lawful c.args.place c.reading.result c.reading.ensures (members c.args.environment.now) c.args.cells.now c.requires.cells

pub returns-then-has_cell : goal.returns-then-has_cell
returns-then-has_cell c =
    cell_put c.args.present.now c.requires.lawful c.args.place c.reading.result c.reading.ensures (members c.args.environment.now) c.args.cells.now c.requires.cells _ (sym c.has_cell.ensures ∙ c.if-has_cell.true) c.in_ok-push.ensures.ok

pub returns : goal.returns
returns c =
    cell_passed c.args.present.now c.requires.lawful c.args.place c.reading.result c.reading.ensures (members c.args.environment.now) c.args.cells.now c.requires.cells (sym c.has_cell.ensures ∙ c.if-has_cell.false)
