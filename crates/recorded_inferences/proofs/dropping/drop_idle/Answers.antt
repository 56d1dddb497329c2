use Rattle.recorded_inferences.proofs.Dropped.{alike_same}
use Rattle.recorded_inferences.proofs.dropping.drop_idle.Goals as goal

pub returns-clause-recorded : goal.returns-clause-recorded
returns-clause-recorded c = alike_same c.args.weave.now c.drop_unnamed.new.weave c.drop_unnamed.ensures
