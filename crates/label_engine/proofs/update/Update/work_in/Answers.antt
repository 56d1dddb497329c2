use Rattle.label_engine.proofs.Pieces.{survives_on}
use Rattle.label_engine.proofs.update.Update.work_in.Goals as goal

pub returns-clause-survives : goal.returns-clause-survives
returns-clause-survives g c = survives_on c.args.slots.now c.args.self.now c.begin.new.self c.settle.new.self c.begin.ensures.survives c.settle.ensures.survives
