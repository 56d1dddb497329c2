use Rattle.std.proofs.Common.{◌≡◌, IfSome, List, None, sym, ap, subst, ◌∙◌}
use Rattle.std.specs.Vec.{with_items}
use Rattle.std.proofs.lemmas.List.{with_items_is}
use Rattle.environment_sets.specs.Lists.{IsIn, AreDistinct}
use Rattle.environment_sets.specs.Sets.{◌⊆◌}
use Rattle.environment_sets.specs.Members.{members, sets}
use Rattle.propagation.specs.Propagating.{IsPut}
use Rattle.labelled_nodes.specs.declared.node.Node.{Node}
use Rattle.labelled_nodes.specs.Counted.{count_in}
use Rattle.labelled_nodes.specs.Nodes.{Labelled, EachDrops, KeptIn, facts_of}
use Rattle.labelled_nodes.proofs.Labelled.{dropped_facts}
use Rattle.labelled_nodes.proofs.Changed.{put_everywhere}
use Rattle.labelled_nodes.proofs.Wholes.{whole_dropped}
use Rattle.labelled_nodes.proofs.nodes.Nodes.put_nogood.Goals as goal

pub invariant_of-self-2 : goal.invariant_of-self-2
invariant_of-self-2 c =
    let list = c.self.inside.list in
    let written : (with_items list c.drop_over.new.nodes).items ≡ c.drop_over.new.nodes = with_items_is list c.drop_over.new.nodes (c.drop_over.auto.nodes ∙ c.deref_mut.ensures.len) in
    let dropped : EachDrops (λ F. members c.args.env.now ⊆ F) list.items (with_items list c.drop_over.new.nodes).items = rw (written, ← c.deref_mut.ensures.value) c.drop_over.ensures in
    let now = (with_items list c.drop_over.new.nodes).items in
    let same : facts_of now ≡ facts_of list.items = dropped_facts (λ F. members c.args.env.now ⊆ F) list.items now dropped in
    let P : List Node → Type 0 = λ ns. IfSome c.count_all-self-inside.result (λ n. n ≡ count_in ns) in
    let Q : List Node → Type 0 = λ ns. (n : Node) → IsIn ns n → AreDistinct (sets n.label) in (
      subst AreDistinct (sym same) c.self.invariant.0,
      c.self.invariant.1 ∙ sym same,
      whole_dropped (λ F. members c.args.env.now ⊆ F) list.items now (members c.self.inside.whole.reach) c.self.inside.whole.count dropped c.self.invariant.2 (members c.self.inside.whole.reach) (λ E within out. within) c.count_all-self-inside.result
          (subst P c.deref.ensures.value c.count_all-self-inside.ensures.counted)
          (subst Q c.deref.ensures.value c.count_all-self-inside.ensures.once),
    )

pub returns-clause-ok : goal.returns-clause-ok
returns-clause-ok c =
    let list = c.self.inside.list in
    let written : (with_items list c.drop_over.new.nodes).items ≡ c.drop_over.new.nodes = with_items_is list c.drop_over.new.nodes (c.drop_over.auto.nodes ∙ c.deref_mut.ensures.len) in
    let dropped : EachDrops (λ F. members c.args.env.now ⊆ F) list.items (with_items list c.drop_over.new.nodes).items = rw (written, ← c.deref_mut.ensures.value) c.drop_over.ensures in
    let new : Labelled = record { list = (with_items list c.drop_over.new.nodes).items; nogoods = c.add.new.self } in
    let P : Labelled → Type 0 = λ old. IsPut None (members c.args.env.now) (KeptIn old) (KeptIn new) in
    subst P c.self.view_is (put_everywhere (record { list = list.items; nogoods = c.self.inside.nogoods }) new c.args.env.now c.in_ok-add.ensures.added dropped)

pub returns-clause-facts : goal.returns-clause-facts
returns-clause-facts c =
    let list = c.self.inside.list in
    let written : (with_items list c.drop_over.new.nodes).items ≡ c.drop_over.new.nodes = with_items_is list c.drop_over.new.nodes (c.drop_over.auto.nodes ∙ c.deref_mut.ensures.len) in
    let dropped : EachDrops (λ F. members c.args.env.now ⊆ F) list.items (with_items list c.drop_over.new.nodes).items = rw (written, ← c.deref_mut.ensures.value) c.drop_over.ensures in
    dropped_facts (λ F. members c.args.env.now ⊆ F) list.items _ dropped ∙ ap (λ (l : Labelled). facts_of l.list) c.self.view_is
