use Rattle.label_engine.proofs.Remembering.{kept_exact}
use Rattle.label_engine.proofs.Forgetting.{rests, forgets, labels_without}
use Rattle.label_engine.proofs.engine.Engine.forget.Goals as goal

pub invariant_of-self : goal.invariant_of-self
invariant_of-self c = rests c.self.inside.slots c.args.slot c.self.inside.update c.forget.new.self c.forget.ensures c.self.invariant c.clear.new.self c.clear.ensures

pub returns-clause-forgets : goal.returns-clause-forgets
returns-clause-forgets c = forgets c.self.inside.slots c.args.slot c.self.inside.update c.forget.new.self c.forget.ensures c.self.invariant c.clear.new.self c.clear.ensures c.args.self.now c.self.view_is

pub returns-clause-labels : goal.returns-clause-labels
returns-clause-labels c = labels_without c.self.inside.slots c.args.slot c.self.inside.update c.forget.new.self c.forget.ensures c.self.invariant c.clear.new.self c.clear.ensures c.args.self.now c.self.view_is

pub returns-clause-exact : goal.returns-clause-exact
returns-clause-exact c = kept_exact c.clear.new.self c.forget.new.self (invariant_of-self c)
