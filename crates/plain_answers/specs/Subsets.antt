-- Lists of sets of assumptions.
use Rattle.std.specs.Prelude.{◌≡◌, ◌⊎◌, ◌||◌, ◌==◌, ℕ, ◌<◌, Bool, false, IsTrue, List, [], ◌∷◌, map, length, Some, slice_get}
use Rattle.environment_sets.specs.Sets.{Set}
use Rattle.circuit_model.specs.declared.model.Fact.{Fact}
use Rattle.circuit_model.specs.Diagnoses.{Place, AtPart, AtCell}
use Rattle.circuit_model.specs.Present.{PresentView, is_cell}
use Rattle.circuit_model.specs.declared.limits.TheConstants.{MOST_CYCLES, MOST_NETS, MOST_PARTS}
use Rattle.plain_answers.specs.declared.environment.Environment.{Environment}
use Rattle.plain_answers.specs.Members.{members}
use Rattle.plain_answers.specs.declared.subsets.Named.{Named}
use Rattle.plain_answers.specs.declared.subsets.Named.TheVariants as named

-- the sets that the environments stand for
abbrev pub sets : List Environment → List (Set Place)
sets es = map members es

-- each name is such a one
abbrev pub IsWithin : (Place → Type 0) → Set Place → Type 0
IsWithin U E = (k : Place) → IsTrue (E k) → U k

-- one of the first n components
abbrev pub IsPart : ℕ → Place → Type 0
IsPart n (AtPart place) = place < n
IsPart n (AtCell c) = ⊥

-- a component, or the cell of one of the first n measurements
abbrev pub IsPartOrCell : PresentView → ℕ → Place → Type 0
IsPartOrCell s n (AtPart place) = place < length s.parts
IsPartOrCell s n (AtCell c) = (k : ℕ) × (f : Fact) × (k < n) × (slice_get s.readings k ≡ Some f) × (f.cell ≡ c)

-- the assumption that the name stands for
abbrev pub place_of : Named → Place
place_of (named.Part place) = AtPart place
place_of (named.Cell cell) = AtCell cell

-- the name is within the limits of presents
abbrev pub IsNamed : Named → Type 0
IsNamed (named.Part place) = place < MOST_PARTS
IsNamed (named.Cell cell) = (cell.net < MOST_NETS) × (cell.cycle < MOST_CYCLES)

-- the two names are the same
abbrev pub is_same : Place → Place → Bool
is_same (AtPart k) (AtPart n) = k == n
is_same (AtCell c) (AtCell d) = is_cell c d
is_same (AtPart k) (AtCell d) = false
is_same (AtCell c) (AtPart n) = false

-- the set with the name
abbrev pub adding : Place → Set Place → Set Place
adding name E = λ k. E k || is_same k name

-- each set, and then the same with the name
abbrev pub doubling : Place → List (Set Place) → List (Set Place)
doubling name [] = []
doubling name (E ∷ Es) = E ∷ adding name E ∷ doubling name Es

-- the new sets are the old ones, each without the name and with it
abbrev pub IsDoubled : Named → List (Set Place) → List (Set Place) → Type 0
IsDoubled name old new = new ≡ doubling (place_of name) old

module _ {X : Type 0} where
  -- the elements of which P holds, in the same order
  abbrev pub Keeps : (X → Type 0) → List X → List X → Type 0
  Keeps P [] ys = ys ≡ []
  Keeps P (x ∷ xs) ys = ((zs : List X) × (ys ≡ x ∷ zs) × P x × Keeps P xs zs) ⊎ ((P x → ⊥) × Keeps P xs ys)
