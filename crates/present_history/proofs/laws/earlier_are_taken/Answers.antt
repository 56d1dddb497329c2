use Rattle.present_history.proofs.Earlier.{earlier_first}
use Rattle.present_history.proofs.laws.earlier_are_taken.Goals as goal

pub returns : goal.returns
returns c = earlier_first
