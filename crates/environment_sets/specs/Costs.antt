-- Costs of sets of names, and the order by cost.
use Rattle.std.specs.Prelude.{◌≡◌, ◌⊎◌, ℕ, ◌+◌, ◌<◌, if◌then◌else◌, List, [], ◌∷◌}
use Rattle.environment_sets.specs.Sets.{Set}
use Rattle.environment_sets.specs.Orders.{ComesBefore, ListsAll}

module _ {N : Type 0} where
  -- the sum of the costs of the elements, where the cost of each name of the order stands at its place
  abbrev pub cost_in : List N → List ℕ → Set N → ℕ
  cost_in [] costs E = 0
  cost_in (k ∷ order) [] E = 0
  cost_in (k ∷ order) (cost ∷ costs) E = (if E k then cost else 0) + cost_in order costs E

  -- the one costs less, or as much as the other, and comes before it in the order
  abbrev pub ComesBeforeByCost : List N → List ℕ → Set N → Set N → Type 0
  ComesBeforeByCost order costs E F = (cost_in order costs E < cost_in order costs F) ⊎ ((cost_in order costs E ≡ cost_in order costs F) × ComesBefore order E F)

  -- each element of each set of the family is one of the names
  abbrev pub ListsEach : List N → (Set N → Type 0) → Type 0
  ListsEach order Family = (E : Set N) → Family E → ListsAll order E
