-- How many environments all labels have.
use Rattle.std.specs.Prelude.{◌≡◌, ℕ, ◌+◌, List, [], ◌∷◌, Option, Some, IfSome, length}
use Rattle.circuit_model.specs.declared.model.Fact.{Fact}
use Rattle.environment_sets.specs.Lists.{IsIn, AreDistinct, IsRoster}
use Rattle.environment_sets.specs.Members.{sets, HasMember}
use Rattle.environment_sets.specs.Sets.{Set, ◌⊆◌}
use Rattle.labelled_nodes.specs.declared.node.Node.{Node}
use Rattle.labelled_nodes.specs.Nodes.{label_in}

-- so many pairs of a fact and an environment of its label are inside the mask
pub record ArePairs (nodes : List Node) (mask : Set ℕ) (n : ℕ) : Type 0 where
  pub pairs : List (Fact × Set ℕ)
  pub exact : IsRoster (λ p. HasMember (label_in nodes p.0) p.1 × (p.1 ⊆ mask)) pairs
  pub count : n ≡ length pairs

-- how many environments the labels of all nodes have
abbrev pub count_in : List Node → ℕ
count_in [] = 0
count_in (n ∷ nodes) = length n.label + count_in nodes

-- no label has an environment twice, each environment lies in the reach, and where a count is told it is that of all
pub record IsWhole (nodes : List Node) (reach : Set ℕ) (count : Option ℕ) : Type 0 where
  pub once : (n : Node) → IsIn nodes n → AreDistinct (sets n.label)
  pub within : (n : Node) (E : Set ℕ) → IsIn nodes n → HasMember n.label E → E ⊆ reach
  pub counted : IfSome count (λ k. k ≡ count_in nodes)

-- as many as before, but for one label that has the one number in place of the other
abbrev pub IsMoved : Option ℕ → ℕ → ℕ → ℕ → Type 0
IsMoved count before after n = (k : ℕ) × (count ≡ Some k) × (n + before ≡ k + after)
