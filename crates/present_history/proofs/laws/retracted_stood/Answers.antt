use Rattle.present_history.proofs.Earlier.{retracted_earlier}
use Rattle.present_history.proofs.laws.retracted_stood.Goals as goal

pub returns : goal.returns
returns c = retracted_earlier
