-- The engine, as contracts see it.
use Rattle.std.specs.Prelude.{◌≡◌, ◌≢◌, ◌↔◌, ℕ, ◌<◌, Option, Some, None, IsSome, List, [], ◌∷◌, ◌++◌, map, filter}
use Rattle.circuit_model.specs.declared.model.Fact.{Fact}
use Rattle.circuit_model.specs.declared.model.Assumption.{Assumption}
use Rattle.circuit_model.specs.Stock.{Stock}
use Rattle.environment_sets.specs.declared.environment.Env.{Env}
use Rattle.environment_sets.specs.declared.environment.TheConstants.{SLOTS}
use Rattle.environment_sets.specs.Sets.{Set}
use Rattle.environment_sets.specs.Members.{HasMember}
use Rattle.labelled_nodes.specs.declared.node.Node.{Node}
use Rattle.labelled_nodes.specs.Nodes.{is_same}

-- an environment that is kept in the label of a fact
pub record Kept : Type 0 where
  pub fact : Fact
  pub env : Env

-- what is remembered at each slot, the environments of all labels, each with its fact, in no order that is told, and the nogoods
pub record Seen : Type 0 where
  pub slots : List (Option Assumption)
  pub kept : List Kept
  pub nogoods : List Env

-- the environments that are kept for the fact
abbrev pub label_of : List Kept → Fact → List Env
label_of kept f = map (λ k. k.env) (filter (λ k. is_same k.fact f) kept)

-- an environment that is kept for the fact has exactly these slots
abbrev pub label_at : Seen → Fact → Set ℕ → Type 0
label_at seen f E = HasMember (label_of seen.kept f) E

-- the environments of the node's label, each with its fact
abbrev pub kept_at : Node → List Kept
kept_at n = map (λ e. record { fact = n.fact; env = e }) n.label

-- the environments of the labels of all nodes, each with its fact
abbrev pub kept_of : List Node → List Kept
kept_of [] = []
kept_of (n ∷ nodes) = kept_at n ++ kept_of nodes

-- the slot was free and now stands for the assumption; every other slot stays as it was
pub record Remembers (old : Stock ℕ) (slot : ℕ) (what : Assumption) (new : Stock ℕ) : Type 0 where
  pub below : slot < SLOTS
  pub free : old slot ≡ None
  pub there : new slot ≡ Some what
  pub others : (k : ℕ) → k ≢ slot → new k ≡ old k

-- the slot stood for the assumption and is free now; every other slot stays as it was
pub record Forgets (old : Stock ℕ) (slot : ℕ) (what : Assumption) (new : Stock ℕ) : Type 0 where
  pub there : old slot ≡ Some what
  pub free : new slot ≡ None
  pub others : (k : ℕ) → k ≢ slot → new k ≡ old k

-- each slot stands for an assumption
abbrev pub AreAllTaken : Stock ℕ → Type 0
AreAllTaken S = (k : ℕ) → k < SLOTS → IsSome (S k)

-- what is remembered, each label and the nogoods are the same
pub record IsAsBefore (old new : Seen) : Type 0 where
  pub slots : new.slots ≡ old.slots
  pub labels : (f : Fact) (E : Set ℕ) → label_at old f E ↔ label_at new f E
  pub nogoods : (E : Set ℕ) → HasMember old.nogoods E ↔ HasMember new.nogoods E
