use Rattle.plain_answers.proofs.Positions.{repaired_or_not}
use Rattle.plain_answers.proofs.keeping.repaired.Goals as goal

pub returns : goal.returns
returns c = repaired_or_not c.args.present.now _ _ c.in_ok-clash.clash c.other_parts-others.ensures c.in_ok-clash.ensures
