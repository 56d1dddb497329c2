-- Laws of the order by cost.
use Rattle.std.specs.Prelude.{◌≡◌, ◌⊎◌, ℕ, List}
use Rattle.environment_sets.specs.Sets.{Set}
use Rattle.environment_sets.specs.Lists.{IsIn, IsRising, IsStrict, IsListing}
use Rattle.environment_sets.specs.Orders.{ListsAll}
use Rattle.environment_sets.specs.Costs.{ComesBeforeByCost}

module _ (N : Type 0) where
  -- no two sets come before each other
  abbrev pub CostOrderIsStrict : Type 0
  CostOrderIsStrict = (order : List N) (costs : List ℕ) → IsStrict (ComesBeforeByCost order costs)

  -- a set comes before what comes after a later one
  abbrev pub CostOrderIsTransitive : Type 0
  CostOrderIsTransitive = (order : List N) (costs : List ℕ) (E F G : Set N) → ComesBeforeByCost order costs E F → ComesBeforeByCost order costs F G → ComesBeforeByCost order costs E G

  -- of two sets that the order lists, one comes before the other, unless they are the same
  abbrev pub CostOrderIsTotal : Type 0
  CostOrderIsTotal = (order : List N) (costs : List ℕ) (E F : Set N) → ListsAll order E → ListsAll order F → ComesBeforeByCost order costs E F ⊎ ((E ≡ F) ⊎ ComesBeforeByCost order costs F E)

  -- a listing of the sets of a rising list is that list, so the sets with a property have one listing
  abbrev pub CostListingsAreUnique : Type 0
  CostListingsAreUnique = (order : List N) (costs : List ℕ) (xs ys : List (Set N)) → IsRising (ComesBeforeByCost order costs) xs → IsListing (ComesBeforeByCost order costs) (IsIn xs) ys → xs ≡ ys
