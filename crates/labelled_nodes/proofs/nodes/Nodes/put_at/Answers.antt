use Rattle.std.proofs.Common.{rules, ◌≡◌, ◌<◌, position, set, length, get_or, Some, refl, sym, ap, subst, inl, ◌∙◌}
use Rattle.std.proofs.Math.Seq.{map-set_same}
use Rattle.environment_sets.specs.Lists.{AreDistinct}
use Rattle.environment_sets.specs.Members.{members, HasMember}
use Rattle.environment_sets.specs.Families.{Adds, IsCovered}
use Rattle.propagation.specs.Propagating.{IsPut}
use Rattle.labelled_nodes.specs.declared.node.Node.{Node}
use Rattle.labelled_nodes.specs.Nodes.{Labelled, KeptIn, facts_of}
use Rattle.labelled_nodes.proofs.Labelled.{is_at, met_has_place, label_at}
use Rattle.labelled_nodes.proofs.Changed.{put_in_place}
use Rattle.labelled_nodes.proofs.Wholes.{whole_put}
use Rattle.labelled_nodes.proofs.nodes.Nodes.put_at.Goals as goal

pub unwrap-place-requires : goal.unwrap-place-requires
unwrap-place-requires c = rw c.place_of.ensures (met_has_place c.args.self.now.list c.args.fact.now c.requires.met)

pub returns-clause-ok : goal.returns-clause-ok
returns-clause-ok c =
    let nodes = c.self.inside.list.items in
    let place : position (is_at c.args.fact.now) nodes ≡ Some c.unwrap-place.result = ap (λ (l : Labelled). position (is_at c.args.fact.now) l.list) c.self.view_is ∙ (sym c.place_of.ensures ∙ c.unwrap-place.ensures) in
    let node : Node = record { fact = c.index_mut-node.result.now.fact; label = c.add.new.self } in
    let new : Labelled = record { list = set nodes c.unwrap-place.result node; nogoods = c.self.inside.nogoods } in
    let P : Labelled → Type 0 = λ old. IsPut (Some c.args.fact.now) (members c.args.env.now) (KeptIn old) (KeptIn new) in
    subst P c.self.view_is (
    put_in_place (record { list = nodes; nogoods = c.self.inside.nogoods }) new c.args.env.now c.args.fact.now c.unwrap-place.result c.index_mut-node.result.now node place (ap (λ (n : Node). n.fact) c.index_mut-node.ensures.value) refl refl
    (rw (← c.index_mut-node.ensures.value) c.in_ok-add.ensures.added)
    )

pub returns-clause-facts : goal.returns-clause-facts
returns-clause-facts c =
    map-set_same (λ (n : Node). n.fact) c.self.inside.list.items c.unwrap-place.result _ c.index_mut-node.result.now (ap (λ (n : Node). n.fact) c.index_mut-node.ensures.value)
    ∙ ap (λ (l : Labelled). facts_of l.list) c.self.view_is

pub add-requires : goal.add-requires
add-requires c =
    let nodes = c.args.self.now.list in
    let place : position (is_at c.args.fact.now) nodes ≡ Some c.unwrap-place.result = sym c.place_of.ensures ∙ c.unwrap-place.ensures in
    let label = label_at nodes c.args.fact.now c.unwrap-place.result c.index_mut-node.result.now place in
    let read : c.index_mut-node.result.now ≡ get_or nodes c.unwrap-place.result c.index_mut-node.result.now = c.index_mut-node.ensures.value ∙ ap (λ (l : Labelled). get_or l.list c.unwrap-place.result c.index_mut-node.result.now) c.self.view_is in
    let P : Node → Type 0 = λ n. IsCovered (HasMember n.label) (members c.args.env.now) in
    λ covers. c.requires.out (inl (rw label (subst P read covers)))

pub invariant_of-self-2 : goal.invariant_of-self-2
invariant_of-self-2 c =
    let nodes = c.self.inside.list.items in
    let i = c.unwrap-place.result in
    let d : Node = c.index_mut-node.result.now in
    let node : Node = record { fact = d.fact; label = c.add.new.self } in
    let same : facts_of (set nodes i node) ≡ facts_of nodes = map-set_same (λ (n : Node). n.fact) nodes i node d (ap (λ (n : Node). n.fact) c.index_mut-node.ensures.value) in
    let low : i < length nodes = search rules in
    let adds : Adds (HasMember (get_or nodes i d).label) (HasMember node.label) (members c.args.env.now) = rw (← c.index_mut-node.ensures.value) c.in_ok-add.ensures.added in (
      subst AreDistinct (sym same) c.self.invariant.0,
      c.self.invariant.1 ∙ sym same,
      whole_put nodes (members c.self.inside.whole.reach) c.self.inside.whole.count i d node (members c.args.env.now) low c.self.invariant.2 adds c.members-after.ensures.once (members c.changed-self-inside.result.reach) c.changed-self-inside.ensures.reach
          c.changed-self-inside.result.count
          (rw (← c.index_mut-node.ensures.value, ← c.members-before.ensures.all, ← c.members-after.ensures.all) c.changed-self-inside.ensures.count),
    )
