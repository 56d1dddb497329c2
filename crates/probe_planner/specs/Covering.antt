-- What labels cover.
use Rattle.std.specs.Prelude.{◌≡◌, ℕ, Bool, IsTrue, List}
use Rattle.std.specs.List.{list_any}
use Rattle.circuit_model.specs.declared.model.Cell.{Cell}
use Rattle.circuit_model.specs.Closure.{fact}
use Rattle.environment_sets.specs.declared.environment.Env.{Env}
use Rattle.environment_sets.specs.declared.environment.TheConstants.{SLOTS}
use Rattle.environment_sets.specs.Lists.{IsIn}
use Rattle.environment_sets.specs.Members.{members}
use Rattle.environment_sets.specs.Sets.{Set, ◌∖◌, is_within}
use Rattle.label_engine.specs.Engine.{Seen, label_of}
use Rattle.standing_view.specs.Standing.{Stands, mask_of}

-- one of the environments is a subset
unfoldable pub covers : List Env → Set ℕ → Bool
covers label E = list_any (λ m. is_within SLOTS (members m) E) label

-- the label of the word at the cell covers the set
unfoldable pub is_covered : Seen → Cell → ℕ → Set ℕ → Bool
is_covered seen c v E = covers (label_of seen.kept (fact c v)) E

-- of each of the sets at most one word's label covers it
abbrev pub CoverOneWord : Seen → Cell → List (Set ℕ) → Type 0
CoverOneWord seen c Es = (E : Set ℕ) → IsIn Es E → (v w : ℕ) → IsTrue (is_covered seen c v E) → IsTrue (is_covered seen c w E) → v ≡ w

-- what stands outside a diagnosis
abbrev pub rest : Stands → Set ℕ → Set ℕ
rest st D = mask_of st ∖ D
