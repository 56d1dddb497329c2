use Rattle.present_history.proofs.Earlier.{length-earlier_of}
use Rattle.present_history.proofs.laws.earlier_are_as_many.Goals as goal

pub returns : goal.returns
returns c = length-earlier_of
