use Rattle.std.proofs.Common.{sym, ap, subst, ◌∙◌, List}
use Rattle.environment_sets.specs.Lists.{AreDistinct}
use Rattle.environment_sets.specs.Members.{members}
use Rattle.labelled_nodes.specs.declared.node.Node.{Node}
use Rattle.labelled_nodes.specs.Nodes.{facts_of}
use Rattle.labelled_nodes.proofs.Wholes.{whole_none}
use Rattle.labelled_nodes.proofs.nodes.Nodes.open.Goals as goal

pub invariant_of-result : goal.invariant_of-result
invariant_of-result c =
    let P : List Node → Type 0 = λ ns. AreDistinct (facts_of ns) in
    (subst P (sym c.new.ensures.items) tt, c.in_ok-index.ensures ∙ sym (ap facts_of c.new.ensures.items), whole_none c.new.result.items (members c.empty.result) c.new.ensures.items)
