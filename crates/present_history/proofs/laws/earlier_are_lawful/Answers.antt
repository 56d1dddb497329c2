use Rattle.present_history.proofs.Earlier.{earlier_lawful}
use Rattle.present_history.proofs.laws.earlier_are_lawful.Goals as goal

pub returns : goal.returns
returns c = earlier_lawful
