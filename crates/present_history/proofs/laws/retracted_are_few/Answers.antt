use Rattle.present_history.proofs.Earlier.{length-retracted}
use Rattle.present_history.proofs.laws.retracted_are_few.Goals as goal

pub returns : goal.returns
returns c = length-retracted
