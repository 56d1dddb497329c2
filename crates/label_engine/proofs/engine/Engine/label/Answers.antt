use Rattle.std.proofs.Common.{sym, ◌∙◌}
use Rattle.label_engine.proofs.Asked.{label_is}
use Rattle.label_engine.proofs.engine.Engine.label.Goals as goal

pub returns-in-Some : goal.returns-in-Some
returns-in-Some c = c.members.ensures.all ∙ (c.in-Some.ensures ∙ label_is c.self.inside.slots c.self.inside.update.nodes c.self.inside.update.recorded c.self.invariant.up_to_date c.args.self.now c.self.view_is c.args.fact)

pub returns-in-None : goal.returns-in-None
returns-in-None c = sym c.in-None.ensures ∙ label_is c.self.inside.slots c.self.inside.update.nodes c.self.inside.update.recorded c.self.invariant.up_to_date c.args.self.now c.self.view_is c.args.fact
