use Rattle.std.proofs.Common.{refl}
use Rattle.label_engine.proofs.Opened.{opened}
use Rattle.label_engine.proofs.Asked.{seen, is_exact}
use Rattle.label_engine.proofs.engine.Engine.open.Goals as goal

pub returns-clause-exact : goal.returns-clause-exact
returns-clause-exact c =
    is_exact c.in_ok-slots.slots c.in_ok-nodes.nodes c.new.result
    (opened c.in_ok-slots.slots c.in_ok-slots.ensures c.in_ok-nodes.nodes c.new.result c.in_ok-nodes.ensures.nodes c.in_ok-nodes.ensures.nogoods c.new.ensures)
    (seen c.in_ok-slots.slots c.in_ok-nodes.nodes) refl
