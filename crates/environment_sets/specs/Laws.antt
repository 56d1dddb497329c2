-- Laws of sets, of their order and of lists of them.
use Rattle.std.specs.Prelude.{◌≡◌, ◌↔◌, ◌⊎◌, ℕ, None, List, bit_and}
use Rattle.std.specs.List.{count_by}
use Rattle.std.specs.declared.cmp.Ordering.TheVariants.{Equal}
use Rattle.environment_sets.specs.declared.environment.Env.{Env}
use Rattle.environment_sets.specs.declared.environment.TheConstants.{SLOTS}
use Rattle.environment_sets.specs.Sets.{Set, no_elements, ◌⊆◌, IsBelow, size_below, IsMinimalHittingSet}
use Rattle.environment_sets.specs.Members.{members}
use Rattle.environment_sets.specs.Signatures.{signature}
use Rattle.environment_sets.specs.Lists.{IsIn, IsRising, IsStrict, AreDistinct, IsListing}
use Rattle.environment_sets.specs.Orders.{ListsAll, compare_in, ComesBefore}
use Rattle.environment_sets.specs.Walks.{IsWalk}

-- each slot of an environment is below the bound
abbrev pub SlotsAreBelow : Type 0
SlotsAreBelow = (e : Env) → IsBelow SLOTS (members e)

-- environments with the same slots are equal
abbrev pub SameSlotsAreEqual : Type 0
SameSlotsAreEqual = (e f : Env) → members e ≡ members f → e ≡ f

-- the signature of a subset has no bit that the signature of the other lacks
abbrev pub SubsetsHaveLess : Type 0
SubsetsHaveLess = (e f : Env) → members e ⊆ members f → bit_and (signature e) (signature f) ≡ signature e

-- as many names of a list of distinct names, which lists all of the set, are in the set as the set has elements
abbrev pub SizesAreCounts : Type 0
SizesAreCounts = (n : ℕ) (E : Set ℕ) (order : List ℕ) → IsBelow n E → AreDistinct order → ListsAll order E → count_by E order ≡ size_below n E

-- no set is hit in vain: of no sets the one minimal hitting set is the empty one
abbrev pub NoneIsHitByNone : Type 0
NoneIsHitByNone = (D : Set ℕ) → IsMinimalHittingSet (λ _. ⊥) D ↔ (D ≡ no_elements)

module _ (N : Type 0) where
  -- no two sets come before each other
  abbrev pub OrderIsStrict : Type 0
  OrderIsStrict = (order : List N) → IsStrict (ComesBefore order)

  -- a set that comes before another comes before what comes after that one
  abbrev pub OrderIsTransitive : Type 0
  OrderIsTransitive = (order : List N) (E F G : Set N) → ComesBefore order E F → ComesBefore order F G → ComesBefore order E G

  -- sets that compare equal have the same elements, where the order lists them
  abbrev pub EqualSetsAreSame : Type 0
  EqualSetsAreSame = (order : List N) (E F : Set N) → ListsAll order E → ListsAll order F → compare_in order E F ≡ Equal → E ≡ F

  -- of two sets that the order lists, one comes before the other, unless they are the same
  abbrev pub OrderIsTotal : Type 0
  OrderIsTotal = (order : List N) (E F : Set N) → ListsAll order E → ListsAll order F → ComesBefore order E F ⊎ ((E ≡ F) ⊎ ComesBefore order F E)

  -- a listing of the sets of a rising list is that list, so the sets with a property have one listing
  abbrev pub ListingsAreUnique : Type 0
  ListingsAreUnique = (order : List N) (xs ys : List (Set N)) → IsRising (ComesBefore order) xs → IsListing (ComesBefore order) (IsIn xs) ys → xs ≡ ys

  -- a walk from the start lists the members inside the mask
  abbrev pub WalksListAll : Type 0
  WalksListAll = (order : List N) (Es : List (Set N)) (mask : Set N) (walk : List (Set N)) → IsWalk order (IsIn Es) mask None walk → IsListing (ComesBefore order) (λ E. IsIn Es E × (E ⊆ mask)) walk
