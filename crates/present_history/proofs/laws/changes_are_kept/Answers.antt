use Rattle.present_history.proofs.Earlier.{change_kept}
use Rattle.present_history.proofs.laws.changes_are_kept.Goals as goal

pub returns : goal.returns
returns c = change_kept
