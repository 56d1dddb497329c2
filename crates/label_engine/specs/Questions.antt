-- What is asked of an engine.
use Rattle.std.specs.Prelude.{◌≡◌, ℕ, ◌-◌, ◌^◌, ◌<◌, ◌≤◌, ◌&&◌, Bool, true, nat_lt, min, Option, Some, None, List}
use Rattle.std.specs.List.{count_by}
use Rattle.circuit_model.specs.declared.model.Cell.{Cell}
use Rattle.circuit_model.specs.Closure.{fact}
use Rattle.circuit_model.specs.Load.{IsLoad}
use Rattle.circuit_model.specs.Present.{is_cell}
use Rattle.environment_sets.specs.Families.{IsCovered}
use Rattle.circuit_model.specs.Stock.{Stock, IsInLabel}
use Rattle.environment_sets.specs.declared.environment.TheConstants.{SLOTS}
use Rattle.environment_sets.specs.Sets.{Set, is_within}
use Rattle.environment_sets.specs.Members.{members, HasMember}
use Rattle.labelled_nodes.specs.declared.node.Node.{Node}
use Rattle.label_engine.specs.Engine.{Kept, label_of}

-- where there is no last number, each is above it
abbrev pub IsAbove : Option ℕ → ℕ → Type 0
IsAbove None v = Unit {0}
IsAbove (Some last) v = last < v

-- the least number above the last of which P holds
pub record IsNextNumber (P : ℕ → Type 0) (last : Option ℕ) (v : ℕ) : Type 0 where
  pub holds : P v
  pub above : IsAbove last v
  pub least : (u : ℕ) → P u → IsAbove last u → v ≤ u

-- the answer is the next number, and there is none exactly where no further one is there
abbrev pub GivesNextNumber : (ℕ → Type 0) → Option ℕ → Option ℕ → Type 0
GivesNextNumber P last None = (v : ℕ) → P v → IsAbove last v → ⊥
GivesNextNumber P last (Some v) = IsNextNumber P last v

module _ {N : Type 0} where
  -- the label of the cell and the word over the stock has some environment
  abbrev pub HasLabel : Stock N → Cell → ℕ → Type 0
  HasLabel S c v = (E : Set N) × IsInLabel S (fact c v) E

-- whether the number is above the last one, where there is one
abbrev pub is_above : Option ℕ → ℕ → Bool
is_above None v = true
is_above (Some last) v = nat_lt last v

-- an environment that is kept for the cell and the word is inside the mask
abbrev pub HasInside : List Kept → Cell → Set ℕ → ℕ → Type 0
HasInside kept c mask v = IsCovered (HasMember (label_of kept (fact c v))) mask

-- the environment is kept for a word of the cell above the last one, and is inside the mask
abbrev pub is_left : Cell → Set ℕ → Option ℕ → Kept → Bool
is_left c mask last k = is_cell k.fact.cell c && is_above last k.fact.value && is_within SLOTS (members k.env) mask

-- how many of the kept environments are of the cell, with a word above the last one, and inside the mask
abbrev pub values_left : List Kept → Cell → Set ℕ → Option ℕ → ℕ
values_left kept c mask last = count_by (is_left c mask last) kept

-- the node is of the cell, with a word above the last one, and an environment of its label is inside the mask
pub record IsLeft (c : Cell) (mask : Set ℕ) (last : Option ℕ) (n : Node) : Type 0 where
  pub cell : n.fact.cell ≡ c
  pub above : IsAbove last n.fact.value
  pub inside : IsCovered (HasMember n.label) mask

-- the lesser of the word and what was found before
abbrev pub IsLeastOf : Option ℕ → ℕ → ℕ → Type 0
IsLeastOf None v least = least ≡ v
IsLeastOf (Some found) v least = least ≡ min found v

-- a number as it is shown: the greatest one of 64 bits where it is above that
abbrev pub shown_as : ℕ → ℕ
shown_as n = min n (2 ^ 64 - 1)

-- the load of the stock, or the greatest number of 64 bits where the load is above it
pub record IsLoadShown (S : Stock ℕ) (shown : ℕ) : Type 0 where
  pub load : ℕ
  pub is : IsLoad S load
  pub bounded : shown ≡ shown_as load
