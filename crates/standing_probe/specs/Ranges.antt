-- Sets of positions of what stands.
use Rattle.std.specs.Prelude.{ℕ, List, length}
use Rattle.environment_sets.specs.Lists.{IsIn}
use Rattle.environment_sets.specs.Sets.{Set, IsBelow}
use Rattle.standing_view.specs.Standing.{Stands}

-- there is a component at each number of each set
abbrev pub AreInRange : Stands → List (Set ℕ) → Type 0
AreInRange st Cs = (C : Set ℕ) → IsIn Cs C → IsBelow (length st.parts) C
