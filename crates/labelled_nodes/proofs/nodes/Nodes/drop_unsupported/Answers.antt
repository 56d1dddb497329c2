use Rattle.std.proofs.Common.{rules, ◌≡◌, ◌≤◌, List, length, filter, sym, ap, subst, ◌∙◌}
use Rattle.std.proofs.lemmas.Fn.{filter_same}
use Rattle.environment_sets.specs.Lists.{AreDistinct}
use Rattle.environment_sets.specs.Members.{members}
use Rattle.labelled_nodes.specs.declared.node.Node.{Node}
use Rattle.labelled_nodes.specs.Nodes.{Labelled, facts_of, is_supported}
use Rattle.labelled_nodes.proofs.Supported.{all_left, distinct_left}
use Rattle.labelled_nodes.proofs.Wholes.{whole_left}
use Rattle.labelled_nodes.proofs.nodes.Nodes.drop_unsupported.Goals as goal

pub invariant_of-self : goal.invariant_of-self
invariant_of-self c =
    let old : List Node = c.self.inside.list.items in
    let now : c.retain.new.self.items ≡ filter is_supported old = filter_same _ is_supported _ (λ x b q k. search rules) _ _ c.retain.ensures.filtered in
    let P : List Node → Type 0 = λ ns. AreDistinct (facts_of ns) in
    (subst P (sym now) (distinct_left old c.self.invariant.0), c.list_again.ensures ∙ ap facts_of c.deref.ensures.value, whole_left old c.retain.new.self.items (members c.self.inside.whole.reach) c.self.inside.whole.count now c.self.invariant.2)

pub invariant_of-self-else-len-before : goal.invariant_of-self-else-len-before
invariant_of-self-else-len-before c =
    let old : List Node = c.self.inside.list.items in
    let now : c.retain.new.self.items ≡ filter is_supported old = filter_same _ is_supported _ (λ x b q k. search rules) _ _ c.retain.ensures.filtered in
    let long : length old ≤ length c.retain.new.self.items = search rules in
    let all : filter is_supported old ≡ old = all_left old (subst (λ (ns : List Node). length old ≤ length ns) now long) in
    let P : List Node → Type 0 = λ ns. AreDistinct (facts_of ns) in
    (subst P (sym now) (distinct_left old c.self.invariant.0), c.self.invariant.1 ∙ ap facts_of (sym (now ∙ all)), whole_left old c.retain.new.self.items (members c.self.inside.whole.reach) c.self.inside.whole.count now c.self.invariant.2)

pub returns-then-len-before-clause-nodes : goal.returns-then-len-before-clause-nodes
returns-then-len-before-clause-nodes c = filter_same _ is_supported _ (λ x b q k. search rules) _ _ c.retain.ensures.filtered ∙ ap (λ (l : Labelled). filter is_supported l.list) c.self.view_is

pub returns-else-len-before-clause-nodes : goal.returns-else-len-before-clause-nodes
returns-else-len-before-clause-nodes c = filter_same _ is_supported _ (λ x b q k. search rules) _ _ c.retain.ensures.filtered ∙ ap (λ (l : Labelled). filter is_supported l.list) c.self.view_is
