use Rattle.std.proofs.Common.{sym, ap, ◌∙◌}
use Rattle.justifications.specs.Woven.{name_of, uses_of, supports_of}
use Rattle.justifications.specs.declared.model.Target.TheVariants.{Node}
use Rattle.justifications.proofs.Calling.{none_listed}
use Rattle.recorded_inferences.proofs.Dropped.{alike_without_node}
use Rattle.recorded_inferences.proofs.dropping.drop_unnamed.Goals as goal

pub returns : goal.returns
returns c =
    let old = c.args.weave.now in
    alike_without_node old c.drop_node.new.self c.laws.ensures c.args.node (none_listed (uses_of old c.args.node.place) (sym c.first_use.ensures ∙ ap name_of c.in-None.is))
    (none_listed (supports_of old (Node c.args.node)) (sym c.first_support.ensures ∙ ap name_of c.in-None-first_support.is)) c.drop_node.ensures.removed c.drop_node.ensures.inferences
