-- The order of sets of names.
use Rattle.std.specs.Prelude.{◌≡◌, ℕ, ◌<◌, IsTrue, ◌&&◌, not, if◌then◌else◌, List, [], ◌∷◌}
use Rattle.std.specs.List.{count_by}
use Rattle.std.specs.Ordering.{nat_cmp}
use Rattle.std.specs.declared.cmp.Ordering.{Ordering}
use Rattle.std.specs.declared.cmp.Ordering.TheVariants.{Less, Equal, Greater}
use Rattle.environment_sets.specs.Sets.{Set}
use Rattle.environment_sets.specs.Lists.{IsIn, AreDistinct}

-- the first of two orders, or the second where the first says that both are equal
abbrev pub first_of_both : Ordering → Ordering → Ordering
first_of_both Less o = Less
first_of_both Equal o = o
first_of_both Greater o = Greater

module _ {N : Type 0} where
  -- of two sets of one size, the one that has the first name at which they differ comes first
  abbrev pub by_first : List N → Set N → Set N → Ordering
  by_first [] E F = Equal
  by_first (k ∷ order) E F = if E k && not (F k) then Less else (if F k && not (E k) then Greater else by_first order E F)

  -- by size, then by the names in this order
  abbrev pub compare_in : List N → Set N → Set N → Ordering
  compare_in order E F = first_of_both (nat_cmp (count_by E order) (count_by F order)) (by_first order E F)

  -- the one set comes before the other in this order of names
  abbrev pub ComesBefore : List N → Set N → Set N → Type 0
  ComesBefore order E F = compare_in order E F ≡ Less

  -- each element of the set is one of the names
  abbrev pub ListsAll : List N → Set N → Type 0
  ListsAll order E = (k : N) → IsTrue (E k) → IsIn order k

-- distinct numbers below n
pub record IsOrder (n : ℕ) (order : List ℕ) : Type 0 where
  pub below : (k : ℕ) → IsIn order k → k < n
  pub distinct : AreDistinct order
