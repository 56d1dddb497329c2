use Rattle.label_engine.proofs.Asked.{is_exact}
use Rattle.label_engine.proofs.engine.Engine.exactness.Goals as goal

pub returns : goal.returns
returns c = is_exact c.self.inside.slots c.self.inside.update.nodes c.self.inside.update.recorded c.self.invariant.up_to_date c.args.self.now c.self.view_is
