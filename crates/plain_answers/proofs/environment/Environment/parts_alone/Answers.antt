use Rattle.plain_answers.specs.declared.sizes.TheConstants.{CYCLES, NETS}
use Rattle.plain_answers.proofs.Rows.{parts_of}
use Rattle.plain_answers.proofs.environment.Environment.parts_alone.Goals as goal

pub returns : goal.returns
returns c = parts_of c.args.self.now.parts c.args.self.now.cells NETS CYCLES
