use Rattle.std.proofs.Common.{◌≡◌, ℕ, IfSome, IsTrue, List, sym, subst, ◌∙◌}
use Rattle.std.specs.Vec.{with_items}
use Rattle.std.proofs.lemmas.List.{with_items_is}
use Rattle.environment_sets.specs.Lists.{IsIn, AreDistinct}
use Rattle.environment_sets.specs.Sets.{Set, ◌⊆◌}
use Rattle.environment_sets.specs.Members.{members, sets}
use Rattle.labelled_nodes.specs.declared.node.Node.{Node}
use Rattle.labelled_nodes.specs.Counted.{count_in}
use Rattle.labelled_nodes.specs.Nodes.{EachDrops, facts_of}
use Rattle.labelled_nodes.proofs.Labelled.{dropped_facts}
use Rattle.labelled_nodes.proofs.Wholes.{whole_dropped, within_others}
use Rattle.labelled_nodes.proofs.nodes.Nodes.drop_slot.Goals as goal

pub invariant_of-self : goal.invariant_of-self
invariant_of-self c =
    let list = c.self.inside.list in
    let written : (with_items list c.drop_slot_in.new.nodes).items ≡ c.drop_slot_in.new.nodes = with_items_is list c.drop_slot_in.new.nodes (c.drop_slot_in.auto.nodes ∙ c.deref_mut.ensures.len) in
    let dropped : EachDrops (λ F. IsTrue (F c.args.slot)) list.items (with_items list c.drop_slot_in.new.nodes).items = rw (written, ← c.deref_mut.ensures.value) c.drop_slot_in.ensures in
    let now = (with_items list c.drop_slot_in.new.nodes).items in
    let reach = members c.self.inside.whole.reach in
    let same : facts_of now ≡ facts_of list.items = dropped_facts (λ F. IsTrue (F c.args.slot)) list.items now dropped in
    let P : List Node → Type 0 = λ ns. IfSome c.count_all.result (λ n. n ≡ count_in ns) in
    let Q : List Node → Type 0 = λ ns. (n : Node) → IsIn ns n → AreDistinct (sets n.label) in (
      subst AreDistinct (sym same) c.self.invariant.0,
      c.self.invariant.1 ∙ sym same,
      whole_dropped (λ F. IsTrue (F c.args.slot)) list.items now reach c.self.inside.whole.count dropped c.self.invariant.2 (members c.without.result)
          (λ E within out. subst (λ (S : Set ℕ). E ⊆ S) (sym c.without.ensures) (within_others E reach c.args.slot within out))
          c.count_all.result
          (subst P c.deref.ensures.value c.count_all.ensures.counted)
          (subst Q c.deref.ensures.value c.count_all.ensures.once),
    )
