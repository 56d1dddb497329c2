-- What the changes of labels leave.
use Rattle.std.proofs.Common.{◌≡◌, ℕ, ap, subst, ◌∙◌, ◌↔◌, List, get_or, set, position, Some, None}
use Rattle.circuit_model.specs.declared.model.Fact.{Fact}
use Rattle.environment_sets.specs.declared.environment.Env.{Env}
use Rattle.environment_sets.specs.Sets.{Set, ◌⊆◌}
use Rattle.environment_sets.specs.Members.{members, HasMember}
use Rattle.environment_sets.specs.Families.{Adds}
use Rattle.propagation.specs.Propagating.{IsPut}
use Rattle.labelled_nodes.specs.declared.node.Node.{Node}
use Rattle.labelled_nodes.specs.Nodes.{Labelled}
use Rattle.labelled_nodes.specs.Nodes.{label_in, KeptIn, EachDrops}
use Rattle.labelled_nodes.proofs.Labelled.{is_at, label_at, label_there, label_elsewhere, same_or_not, inside_or_not, dropped_label}
use Rattle.labelled_nodes.proofs.Puts.{put_fact, put_clash}

module _ (old new : Labelled) (e : Env) where
  -- the label of one fact gains an environment
  module _ (f : Fact) (i : ℕ) (d y : Node) (at : position (is_at f) old.list ≡ Some i) (same : y.fact ≡ (get_or old.list i d).fact) (nodes : new.list ≡ set old.list i y) (nogoods : new.nogoods ≡ old.nogoods) where
    there : label_in new.list f ≡ y.label
    there = ap (λ l. label_in l f) nodes ∙ label_there old.list f i d y at same

    elsewhere : (g : Fact) → (f ≡ g → ⊥) → label_in new.list g ≡ label_in old.list g
    elsewhere g differ = ap (λ l. label_in l g) nodes ∙ label_elsewhere old.list f i d y at same g differ

    alike : (xs ys : List Env) → xs ≡ ys → (F : Set ℕ) → HasMember ys F ↔ HasMember xs F
    alike xs ys same_list F = let P : List Env → Type 0 = λ l. HasMember l F ↔ HasMember xs F in subst P same_list ((λ (h : HasMember xs F). h), (λ (h : HasMember xs F). h))

    pub put_in_place : Adds (HasMember (get_or old.list i d).label) (HasMember y.label) (members e) → IsPut (Some f) (members e) (KeptIn old) (KeptIn new)
    put_in_place adds =
        put_fact (members e) (KeptIn old) (KeptIn new) (inside_or_not e) f (same_or_not f)
        (rw (there, label_at old.list f i d at) adds)
        (λ g differ F. alike (label_in new.list g) (label_in old.list g) (elsewhere g differ) F)
        (λ F. alike new.nogoods old.nogoods nogoods F)

  pub put_everywhere : Adds (HasMember old.nogoods) (HasMember new.nogoods) (members e) → EachDrops (λ F. members e ⊆ F) old.list new.list → IsPut None (members e) (KeptIn old) (KeptIn new)
  put_everywhere adds drops = put_clash (members e) (KeptIn old) (KeptIn new) (inside_or_not e) adds (λ g. dropped_label (λ F. members e ⊆ F) old.list new.list g drops)
