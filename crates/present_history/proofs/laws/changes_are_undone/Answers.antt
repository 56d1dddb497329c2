use Rattle.present_history.proofs.TakenBack.{taken_back}
use Rattle.present_history.proofs.laws.changes_are_undone.Goals as goal

pub returns : goal.returns
returns c = taken_back
