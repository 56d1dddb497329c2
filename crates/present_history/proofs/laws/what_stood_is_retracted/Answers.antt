use Rattle.present_history.proofs.Earlier.{stood_or_retracted}
use Rattle.present_history.proofs.laws.what_stood_is_retracted.Goals as goal

pub returns : goal.returns
returns c = stood_or_retracted
