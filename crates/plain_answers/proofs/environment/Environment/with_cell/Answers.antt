use Rattle.plain_answers.proofs.Rows.{cell_added}
use Rattle.plain_answers.proofs.environment.Environment.with_cell.Goals as goal

pub returns : goal.returns
returns c = cell_added c.args.self.parts c.args.self.cells c.set_in.new.rows c.args.cell c.set_in.ensures.here c.set_in.ensures.elsewhere
