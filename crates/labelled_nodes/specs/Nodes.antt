-- The facts that were met, each with its label, and the nogoods.
use Rattle.std.specs.Prelude.{◌≡◌, ◌↔◌, ℕ, Bool, true, false, ◌==◌, ◌&&◌, ◌||◌, Option, Some, None, List, [], ◌∷◌, map, take, drop}
use Rattle.std.specs.List.{list_any, find}
use Rattle.circuit_model.specs.declared.model.Cell.{Cell}
use Rattle.circuit_model.specs.declared.model.Fact.{Fact}
use Rattle.circuit_model.specs.Present.{is_cell}
use Rattle.environment_sets.specs.declared.environment.Env.{Env}
use Rattle.environment_sets.specs.declared.environment.TheConstants.{SLOTS}
use Rattle.environment_sets.specs.Sets.{Set, is_within}
use Rattle.environment_sets.specs.Members.{members, HasMember}
use Rattle.environment_sets.specs.Lists.{IsIn}
use Rattle.environment_sets.specs.Families.{Drops}
use Rattle.propagation.specs.Propagating.{Target, Family}
use Rattle.labelled_nodes.specs.declared.node.Node.{Node}

-- what is kept: a node for each fact that was met, and the nogoods
pub record Labelled : Type 0 where
  pub list : List Node
  pub nogoods : List Env

-- the two are the same fact
abbrev pub is_same : Fact → Fact → Bool
is_same f g = is_cell f.cell g.cell && (f.value == g.value)

-- the facts of the nodes
abbrev pub facts_of : List Node → List Fact
facts_of nodes = map (λ n. n.fact) nodes

-- the fact has a node
abbrev pub IsMet : List Node → Fact → Type 0
IsMet nodes f = IsIn (facts_of nodes) f

-- exactly those of the facts that are at one of the cells
abbrev pub AreFactsAt : List Fact → List Cell → List Fact → Type 0
AreFactsAt facts cells found = (f : Fact) → IsIn found f ↔ (IsIn facts f × IsIn cells f.cell)

-- the node's label; no node has no environment
abbrev pub envs_of : Option Node → List Env
envs_of None = []
envs_of (Some n) = n.label

-- the label of the fact: that of its first node
abbrev pub label_in : List Node → Fact → List Env
label_in nodes f = envs_of (find (λ n. is_same n.fact f) nodes)

-- the environments of each fact's label, and the nogoods
abbrev pub KeptIn : Labelled → Family
KeptIn nodes None E = HasMember nodes.nogoods E
KeptIn nodes (Some f) E = HasMember (label_in nodes.list f) E

-- the same facts, and from each label exactly the environments of which P holds are dropped
abbrev pub EachDrops : (Set ℕ → Type 0) → List Node → List Node → Type 0
EachDrops P [] [] = Unit {0}
EachDrops P [] (n ∷ new) = ⊥
EachDrops P (o ∷ old) [] = ⊥
EachDrops P (o ∷ old) (n ∷ new) = (n.fact ≡ o.fact) × Drops (HasMember o.label) (HasMember n.label) P × EachDrops P old new

-- the label has an environment
abbrev pub has_any : List Env → Bool
has_any [] = false
has_any (e ∷ es) = true

-- the node's label has an environment
abbrev pub is_supported : Node → Bool
is_supported n = has_any n.label

-- one of the environments is a subset
abbrev pub covers : List Env → Set ℕ → Bool
covers es E = list_any (λ e. is_within SLOTS (members e) E) es

-- an environment of the target's label, or a nogood, is a subset
abbrev pub reaches : Labelled → Target → Set ℕ → Bool
reaches nodes None E = covers nodes.nogoods E
reaches nodes (Some f) E = covers (label_in nodes.list f) E || covers nodes.nogoods E

-- the nodes before the place are done, and the others are as before
pub record AreDropped (P : Set ℕ → Type 0) (old now : List Node) (place : ℕ) : Type 0 where
  pub done : EachDrops P (take place old) (take place now)
  pub rest : drop place now ≡ drop place old
