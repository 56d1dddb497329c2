-- Nodes and recorded inferences (de Kleer 1986), as contracts see them.
use Rattle.std.specs.Prelude.{◌≡◌, ◌⊎◌, ℕ, zero, suc, ◌+◌, ◌*◌, ◌%◌, ◌<◌, List, ◌++◌, Option, Some, None, IsSome, IfSome, IsSomeAnd, slice_index_or}
use Rattle.environment_sets.specs.Lists.{IsRoster}
use Rattle.environment_sets.specs.declared.environment.TheConstants.{SLOTS}
use Rattle.circuit_model.specs.declared.model.Cell.{Cell}
use Rattle.circuit_model.specs.declared.model.Fact.{Fact}
use Rattle.circuit_model.specs.declared.limits.TheConstants.{MOST_CYCLES}
use Rattle.index_lists.specs.Chains.{Records, record_at, keys_in}
use Rattle.justifications.specs.Chained.{AreAlike, IsAdded}
use Rattle.justifications.specs.declared.model.NodeId.{NodeId}
use Rattle.justifications.specs.declared.model.JustId.{JustId}
use Rattle.justifications.specs.declared.model.Target.{Target}
use Rattle.justifications.specs.declared.model.Target.TheVariants.{Node, Clash}
use Rattle.justifications.specs.declared.model.Inferred.{Inferred}
use Rattle.justifications.specs.declared.model.TheConstants.{CELLS, MOST_NODES}

-- the facts of nodes by number, in one lane of lists, by cell; and the recorded inferences by name, in four lanes of lists:
-- by first antecedent, by second antecedent, by what they lead to, and by maker
pub record Woven : Type 0 where
  pub facts : Records Fact
  pub inferences : Records Inferred

-- the fact of the node of a number, if there is one
abbrev pub fact_at : Woven → ℕ → Option Fact
fact_at w number = record_at w.facts number

-- the inference that is recorded under a name, if there is one
abbrev pub inferred_at : Woven → ℕ → Option Inferred
inferred_at w name = record_at w.inferences name

-- the number of a cell's chain; the remainder alters no cell that a present may have
unfoldable pub place_of_cell : Cell → ℕ
place_of_cell cell = (cell.net * MOST_CYCLES + cell.cycle) % CELLS

-- the number of a node that is named
abbrev pub number_of : Option NodeId → Option ℕ
number_of None = None
number_of (Some n) = Some n.place

-- the name that is given
abbrev pub name_of : Option JustId → Option ℕ
name_of None = None
name_of (Some j) = Some j.place

-- the antecedent at one of the two places
abbrev pub antecedent : ℕ → Inferred → Option ℕ
antecedent place x = number_of (slice_index_or x.from place None)

-- the head of what is led to: one for all clashes, and one for each node
abbrev pub place_of_target : Target → ℕ
place_of_target Clash = 0
place_of_target (Node n) = n.place + 1

-- the head that a fact says
abbrev pub head_of_fact : ℕ → Fact → Option ℕ
head_of_fact zero fact = Some (place_of_cell fact.cell)
head_of_fact (suc lane) fact = None

-- the head that an inference says: in lane 0 its first antecedent, in lane 1 its second one, in lane 2 what it leads to, in
-- lane 3 its maker
abbrev pub head_of_inferred : ℕ → Inferred → Option ℕ
head_of_inferred zero x = antecedent 0 x
head_of_inferred (suc zero) x = antecedent 1 x
head_of_inferred (suc (suc zero)) x = Some (place_of_target x.to)
head_of_inferred (suc (suc (suc zero))) x = x.maker
head_of_inferred (suc (suc (suc (suc lane)))) x = None

-- the chain of the nodes of a cell, and of the other cells of its number
abbrev pub nodes_at : Woven → Cell → List ℕ
nodes_at w cell = keys_in w.facts 0 (place_of_cell cell)

-- the chain of the inferences that go from a node: those with it first, then those with it second
abbrev pub uses_of : Woven → ℕ → List ℕ
uses_of w node = keys_in w.inferences 0 node ++ keys_in w.inferences 1 node

-- the chain of the inferences that lead to a node, or to a clash
abbrev pub supports_of : Woven → Target → List ℕ
supports_of w target = keys_in w.inferences 2 (place_of_target target)

-- the chain of the inferences that a slot's component makes
abbrev pub made_by : Woven → ℕ → List ℕ
made_by w slot = keys_in w.inferences 3 slot

-- what is led to is there
abbrev pub IsThere : Woven → Target → Type 0
IsThere w Clash = Unit {0}
IsThere w (Node n) = IsSome (fact_at w n.place)

-- an inference names nodes that are there, goes from each once, and its maker is a slot
pub record IsFit (w : Woven) (x : Inferred) : Type 0 where
  pub first : (n : ℕ) → antecedent 0 x ≡ Some n → IsSome (fact_at w n)
  pub second : (n : ℕ) → antecedent 1 x ≡ Some n → IsSome (fact_at w n)
  pub once : (n : ℕ) → antecedent 0 x ≡ Some n → antecedent 1 x ≡ Some n → ⊥
  pub to : IsThere w x.to
  pub maker : IfSome x.maker (λ slot. slot < SLOTS)

-- the node of the fact was there, and all nodes are as before; or it is made, and first in the chain of its cell
abbrev pub Finds : Woven → Woven → ℕ → Fact → Type 0
Finds old new n fact = ((fact_at old n ≡ Some fact) × AreAlike old.facts new.facts) ⊎ (((k : ℕ) → fact_at old k ≡ Some fact → ⊥) × IsAdded head_of_fact old.facts new.facts n fact)

-- an inference goes from the node
abbrev pub GoesFrom : ℕ → Inferred → Type 0
GoesFrom n x = (antecedent 0 x ≡ Some n) ⊎ (antecedent 1 x ≡ Some n)

-- what is true of all nodes and recorded inferences: no fact has two nodes, each inference is fit, and each chain has exactly
-- what it is of, each once
pub record IsWoven (w : Woven) : Type 0 where
  pub one_node : (i j : ℕ) (fact : Fact) → fact_at w i ≡ Some fact → fact_at w j ≡ Some fact → i ≡ j
  pub numbers : (n : ℕ) → IsSome (fact_at w n) → n < MOST_NODES
  pub fit : (j : ℕ) (x : Inferred) → inferred_at w j ≡ Some x → IsFit w x
  pub nodes : (cell : Cell) → IsRoster (λ n. IsSomeAnd (fact_at w n) (λ fact. place_of_cell fact.cell ≡ place_of_cell cell)) (nodes_at w cell)
  pub uses : (n : ℕ) → IsRoster (λ j. IsSomeAnd (inferred_at w j) (GoesFrom n)) (uses_of w n)
  pub supports : (target : Target) → IsRoster (λ j. IsSomeAnd (inferred_at w j) (λ x. x.to ≡ target)) (supports_of w target)
  pub made : (slot : ℕ) → IsRoster (λ j. IsSomeAnd (inferred_at w j) (λ x. x.maker ≡ Some slot)) (made_by w slot)
