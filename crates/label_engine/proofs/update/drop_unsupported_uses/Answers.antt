use Rattle.std.proofs.Common.{◌+◌, take, sym, ap, subst, ◌∙◌}
use Rattle.recorded_inferences.specs.declared.records.Records.{Records}
use Rattle.recorded_inferences.specs.Recorded.{GoesFrom, AreWithout}
use Rattle.labelled_nodes.specs.declared.node.Node.{Node}
use Rattle.labelled_nodes.specs.Nodes.{is_supported}
use Rattle.label_engine.specs.Update.{GoesFromUnsupported}
use Rattle.label_engine.proofs.Noted.{dropped_one, passed_one, none_dropped, all_dropped}
use Rattle.label_engine.proofs.update.drop_unsupported_uses.Goals as goal
use Rattle.label_engine.proofs.update.drop_unsupported_uses.Goals.{then-not-has_support, else-not-has_support}

pub loop-node-init : goal.loop-node-init
loop-node-init c = none_dropped c.args.recorded.now

pub loop-node-preserved : goal.loop-node-preserved
loop-node-preserved c =
    let now : Records → Type 0 = λ r. AreWithout (GoesFromUnsupported (take (c.loop-node.node-index + 1) c.args.nodes.now)) c.args.recorded.now r in
    let d : Node = c.node-item.result in
    elim c.if-not-has_support.branch [
      | then-not-has_support w ↦ subst now (sym w.recorded-is) (
          dropped_one c.args.nodes.now c.loop-node.node-index d c.loop-node-test.true c.args.recorded.now c.loop-node.recorded w.drop_uses.new.self c.loop-node.invariant
          (ap is_supported (sym c.node-item.is) ∙ (sym c.has_support.ensures ∙ w.if-not-has_support.true))
          (subst (λ (n : Node). AreWithout (GoesFrom n.fact) c.loop-node.recorded w.drop_uses.new.self) c.node-item.is w.drop_uses.ensures))
      | else-not-has_support w ↦ subst now (sym w.recorded-is) (
          passed_one c.args.nodes.now c.loop-node.node-index d c.loop-node-test.true c.args.recorded.now c.loop-node.recorded c.loop-node.recorded c.loop-node.invariant
          (ap is_supported (sym c.node-item.is) ∙ (sym c.has_support.ensures ∙ w.if-not-has_support.false)))
    ]

pub returns : goal.returns
returns c = all_dropped c.args.nodes.now c.loop-node.node-index c.args.recorded.now c.loop-node.recorded c.loop-node-test.false c.loop-node.invariant
