use Rattle.plain_answers.specs.Members.{members}
use Rattle.plain_answers.proofs.Gathering as gathering
use Rattle.plain_answers.proofs.closing.of_present.Goals as goal

pub returns : goal.returns
returns c =
    gathering.of_present c.args.present.now c.cells_of.ensures.lawful (members c.args.environment.now) c.in_ok-parts.parts c.in_ok-readings.readings c.in_ok-parts.ensures c.in_ok-readings.ensures.cells
