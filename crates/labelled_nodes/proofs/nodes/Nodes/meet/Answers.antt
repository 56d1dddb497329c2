use Rattle.std.proofs.Common.{◌≡◌, List, [], ◌∷◌, ◌++◌, sym, ap, subst, ◌∙◌}
use Rattle.std.proofs.lemmas.List.{map-append}
use Rattle.circuit_model.specs.declared.model.Fact.{Fact}
use Rattle.environment_sets.specs.Lists.{IsIn, AreDistinct}
use Rattle.environment_sets.specs.Members.{members}
use Rattle.environment_sets.proofs.Membership.{AreDistinct-push}
use Rattle.labelled_nodes.specs.declared.node.Node.{Node}
use Rattle.labelled_nodes.specs.Nodes.{Labelled, facts_of}
use Rattle.labelled_nodes.proofs.Wholes.{whole_met}
use Rattle.labelled_nodes.proofs.nodes.Nodes.meet.Goals as goal

pub invariant_of-self-2 : goal.invariant_of-self-2
invariant_of-self-2 c =
    let old = c.self.inside.list.items in
    let f : Fact = c.args.fact.now in
    let node : Node = record { fact = f; label = c.new.result } in
    let pushed : c.push_node.new.nodes.items ≡ old ++ node ∷ [] = c.push_node.ensures ∙ ap (λ (ns : List Node). ns ++ node ∷ []) c.make_room.ensures.same in
    let facts : facts_of c.push_node.new.nodes.items ≡ facts_of old ++ f ∷ [] = ap facts_of pushed ∙ map-append (λ (n : Node). n.fact) old (node ∷ []) in
    let unmet : IsIn (facts_of old) f → ⊥ = λ h. c.requires (subst (λ (l : Labelled). IsIn (facts_of l.list) f) c.self.view_is h) in (
      subst AreDistinct (sym facts) (AreDistinct-push (facts_of old) f c.self.invariant.0 unmet),
      c.in_ok-push.ensures.ok ∙ (ap (λ (fs : List Fact). fs ++ f ∷ []) c.self.invariant.1 ∙ sym facts),
      whole_met old c.push_node.new.nodes.items (members c.self.inside.whole.reach) c.self.inside.whole.count node c.new.ensures pushed c.self.invariant.2,
    )
