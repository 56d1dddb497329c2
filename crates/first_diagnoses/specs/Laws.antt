-- A law of the first minimal hitting sets.
use Rattle.std.specs.Prelude.{◌≡◌, ℕ, List, take}
use Rattle.environment_sets.specs.declared.environment.Env.{Env}
use Rattle.environment_sets.specs.Sets.{Set}
use Rattle.environment_sets.specs.Lists.{IsListing}
use Rattle.hitting_sets.specs.Hitting.{IsMinimalFor}
use Rattle.environment_sets.specs.Costs.{ComesBeforeByCost}
use Rattle.first_diagnoses.specs.First.{AreFirst}

-- the first k minimal hitting sets are the first k of the list of all by cost, or all of it
abbrev pub FirstsAreFronts : Type 0
FirstsAreFronts = (conflicts : List Env) (order costs : List ℕ) (k : ℕ) (all xs : List (Set ℕ)) → IsListing (ComesBeforeByCost order costs) (IsMinimalFor conflicts) all → AreFirst (ComesBeforeByCost order costs) (IsMinimalFor conflicts) k xs → xs ≡ take k all
