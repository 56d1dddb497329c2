-- Antichains, how many slots their sets have at most, and which.
use Rattle.std.specs.Prelude.{ℕ, ◌≤◌, List}
use Rattle.environment_sets.specs.declared.environment.Env.{Env}
use Rattle.environment_sets.specs.declared.environment.TheConstants.{SLOTS}
use Rattle.environment_sets.specs.Sets.{Set, ◌⊆◌, size_below}
use Rattle.environment_sets.specs.Members.{sets, HasMember}
use Rattle.environment_sets.specs.Lists.{AreDistinct}
use Rattle.environment_sets.specs.Families.{IsAntichain}

-- no set of the family has more slots than that
abbrev pub AreAtMost : ℕ → (Set ℕ → Type 0) → Type 0
AreAtMost n Family = (E : Set ℕ) → Family E → size_below SLOTS E ≤ n

-- no set of the family has a slot outside of U
abbrev pub AreWithin : Set ℕ → (Set ℕ → Type 0) → Type 0
AreWithin U Family = (E : Set ℕ) → Family E → E ⊆ U

-- what the list of an antichain keeps: no set stands twice, none contains another, and none has more slots than the number
abbrev pub ListsAntichain : ℕ → List Env → Type 0
ListsAntichain n es = AreDistinct (sets es) × IsAntichain (HasMember es) × AreAtMost n (HasMember es)
